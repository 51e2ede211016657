-- What request 08 promises of books: a book is a list of entries whose numbers rise; which job a lookup hands back; what the writer adds.
pub mod Entries
pub mod Passing
pub mod Reading
pub mod Holding
pub mod Placing
pub mod Seeking
pub mod Finding
pub mod Telling
pub mod Adding
pub mod Leaving
pub mod Begins
pub mod Promises
