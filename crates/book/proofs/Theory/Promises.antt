-- What request 08 promises of lookups and of the writer, in two records.
use Rattle.book.specs.Books.{Books, Writes}
use Rattle.book.proofs.Finds.{found_small}
use Rattle.book.proofs.Theory.Adding as adding
use Rattle.book.proofs.Theory.Begins as begins
use Rattle.book.proofs.Theory.Finding as finding
use Rattle.book.proofs.Theory.Holding as holding
use Rattle.book.proofs.Theory.Leaving as leaving
use Rattle.book.proofs.Theory.Telling as telling

pub books : Books
books =
    record { lookup = finding.lookup; told = telling.tells; small = found_small; begins = begins.begins; one = holding.one }

pub writes : Writes
writes = record { adds = adding.adds; leaves = leaving.leaves }
