-- How many words a form takes, and the words that are left in a result.
use Rattle.std.specs.Prelude.{List, ℕ, ◌+◌, ◌*◌, ℤ}
use Rattle.std.proofs.lemmas.List.Edits.{sets}
use Rattle.channel.specs.Layout.{Form, header_size, record_size, count_at}
use Rattle.channel.specs.Recast.{recast}

-- how many words the form F takes for as many records as l has
abbrev pub size_in : Form → List ℤ → ℕ
size_in F l = header_size + count_at l * record_size F

-- a result with the words taken from F to G; those after them are kept
abbrev pub recast_into : Form → Form → List ℤ → List ℤ → List ℤ
recast_into F G l res = sets res 0 (recast F G l)
