-- `rest` is what is left of a good book from `at` on, and the number's place in the book is its place in that.
use Rattle.std.proofs.Common.{◌≡◌, ◌+◌, length}
use Rattle.book.specs.Book.{place_from, place_of}
use Rattle.book.proofs.Turns.{Left}
use Rattle.book.proofs.walk.GoodBook.place_of.Given as goal

abbrev pub invariant-loop-rest : goal.invariant-loop-rest
invariant-loop-rest l =
    (l.at + length l.rest ≡ length l.self.bytes.now) × Left l.at l.rest × (place_of l.self.bytes.now l.number ≡ place_from l.number 0 l.at l.rest)

abbrev pub decreases-loop-rest : goal.decreases-loop-rest
decreases-loop-rest l = length l.rest
