-- `rest` is what is left of the book from `at` on, and what is told of the book is what is told of that.
use Rattle.std.proofs.Common.{◌≡◌, ◌+◌, length}
use Rattle.book.specs.Book.{book_from, book_told}
use Rattle.book.proofs.walk.book_told.Given as goal

abbrev pub invariant-loop-rest : goal.invariant-loop-rest
invariant-loop-rest l = (l.at + length l.rest ≡ length l.book) × (book_told l.book ≡ book_from 0 l.at l.low l.rest)

abbrev pub decreases-loop-rest : goal.decreases-loop-rest
decreases-loop-rest l = length l.rest
