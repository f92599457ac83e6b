-- What holds of the listing: a delivered channel is listed, and the room that answers take.
use Rattle.std.specs.Prelude.{◌≡◌, true, List, ◌++◌, ℕ, ◌≤◌, length, drop, ℤ}
use Rattle.circuit.specs.Limits.{ceilings}
use Rattle.judge.specs.Call.{accepts, result_after}
use Rattle.text.specs.Page.{page, write}
use Rattle.listing.specs.Listing.{listing_of, refusal_line}
use Rattle.listing.specs.Answer.{lines_of, answer_of}

-- the lines of an accepted circuit are those of the words that its call leaves, which are a channel
abbrev pub Listed : Type 0
Listed =
    (n m : ℕ) (σ ws : List ℕ) (r w : List ℤ) → accepts n m σ ceilings ws r w ≡ true → lines_of n m σ ws r w ≡ listing_of (result_after n m σ ceilings ws r w)

-- a text for which there is room is written whole
abbrev pub Whole : Type 0
Whole = (bs l : List ℕ) → length bs ≤ length l → write (page l 0) bs ≡ page (bs ++ drop (length bs) l) (length bs)

-- the words that the program lends for a channel, and the most bytes of a listing of so many
abbrev pub max_result : ℕ
max_result = 5200

abbrev pub max_listing : ℕ
max_listing = 202727

abbrev pub Short : Type 0
Short = (l : List ℤ) → length l ≤ max_result → length (listing_of l) ≤ max_listing

-- the most bytes of the line of a refusal
abbrev pub max_refusal : ℕ
max_refusal = 52

abbrev pub ShortRefusal : Type 0
ShortRefusal = (n i : ℕ) → length (refusal_line n i) ≤ max_refusal

-- the page o, with these bytes and no others at its start
pub record Holds (o bs : List ℕ) : Type 0 where
  pub fits : length bs ≤ length o
  pub is : write (page o 0) bs ≡ page (bs ++ drop (length bs) o) (length bs)

-- every answer is written whole, where the page has as many bytes as the longest listing
abbrev pub Printed : Type 0
Printed = (t o : List ℕ) (r w : List ℤ) → length r ≤ max_result → max_listing ≤ length o → Holds o (answer_of t r w)
