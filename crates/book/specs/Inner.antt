-- What only contracts of inner functions and proofs ask for: nothing here has to be believed.
use Rattle.std.specs.Prelude.{ℕ, ◌+◌, ◌*◌, ◌≤◌, List, ◌≡◌, length, Ok}
use Rattle.parts.specs.Numbers.{instructions}
use Rattle.book.specs.Formed.{formed_told}
use Rattle.book.specs.Book.{head_bytes, book_told}
use Rattle.book.specs.Add.{last_number}

-- the longest job record
abbrev pub job_bytes : ℕ
job_bytes = 4 + 4 * instructions

-- what the writer goes by where nothing is refused
pub record Adds (book : List ℕ) (number : ℕ) (rec : List ℕ) (room : ℕ) : Type 0 where
  pub good : book_told book ≡ Ok tt
  pub below : number ≤ last_number
  pub formed : formed_told rec ≡ Ok tt
  pub fits : length book + (head_bytes + length rec) ≤ room
