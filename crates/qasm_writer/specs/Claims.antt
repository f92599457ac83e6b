-- What the writer takes, and that what it delivers reads back.
use Rattle.std.specs.Prelude.{◌≡◌, true, ◌&&◌, List, ◌∷◌, ℕ, leb, length, take, drop, Ok, is_ok}
use Rattle.qasm.specs.Reading.{circuit, read_of}
use Rattle.qasm.specs.Claims.{writable, small}
use Rattle.qasm_writer.specs.Call.{text_of, write_reply, room_after}

-- it takes the words that can be written, if there is room for their text
abbrev pub Takes : Type 0
Takes = (n m : ℕ) (ws room : List ℕ) → is_ok (write_reply n m ws room) ≡ (writable ws && leb (length (text_of n m ws)) (length room))

-- what it delivers in so many bytes: the text, which reads back to the same counts and words, and the bytes behind it
pub record Delivered (n m : ℕ) (ws room : List ℕ) (bytes : ℕ) : Type 0 where
  pub text : take bytes (room_after n m ws room) ≡ text_of n m ws
  pub back : read_of (take bytes (room_after n m ws room)) ≡ circuit n m ws
  pub behind : drop bytes (room_after n m ws room) ≡ drop (length (text_of n m ws)) room

abbrev pub Delivers : Type 0
Delivers = (n m : ℕ) (ws room : List ℕ) (bytes : ℕ) → small (n ∷ m ∷ ws) ≡ true → write_reply n m ws room ≡ Ok bytes → Delivered n m ws room bytes
