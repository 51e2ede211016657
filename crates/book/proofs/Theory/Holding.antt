-- What a good book holds is what stands among its entries; a number names one job.
use Rattle.std.specs.Prelude.{Ok}
use Prim.Native.Nat.{ℕ, ◌+◌, ◌≤◌, ◌<◌}
use native.Mathlib.Omega.{arith}
use mathlib.Core.List.{List, [], ◌∷◌, ◌++◌, append_assoc}
use mathlib.Core.Logic.{inl, inr}
use mathlib.Core.Path.{◌≡◌, ◌∙◌, sym, ap, subst}
use lib.ListN.{length}
use Rattle.records.specs.Bytes.{AllBytes}
use Rattle.book.specs.Formed.{formed_told}
use Rattle.book.specs.Book.{head_bytes, book_told}
use Rattle.book.specs.Add.{entry_bytes}
use Rattle.book.specs.Books.{Holds}
use Rattle.book.proofs.Theory.Entries.{Entry, entry_of, book_bytes, Rises, Has, job_size, entry_one, bytes_append, rises_front}
use Rattle.book.proofs.Theory.Reading.{Read, read, rises_good, bytes_before}

-- a job's entry is short enough for its length field
pub formed_fits : (rec : List ℕ) → formed_told rec ≡ Ok tt → head_bytes + length rec < 65536
formed_fits rec f = omega (arith, job_size rec f)

-- an entry that stands after whole entries is one of them
held :
    (low down : ℕ) (es fs : List Entry) (n : ℕ) (rec rest : List ℕ) → Rises low es → Rises down fs →
    head_bytes + length rec < 65536 → book_bytes es ≡ book_bytes fs ++ (entry_bytes n rec ++ rest) → Has n rec es
unfolding Rises book_bytes Has
held low down [] [] n rec rest h k s q = let z : ◌≡◌ {A = ℕ} 0 1 = omega (arith, ap length q) in absurd (omega arith)
held low down [] (f ∷ fs) n rec rest h k s q = let z : ◌≡◌ {A = ℕ} 0 1 = omega (arith, ap length q) in absurd (omega arith)
held low down (e ∷ es) [] n rec rest (l, g, h) k s q =
    let o = entry_one e.number n e.job rec (book_bytes es) rest (formed_fits e.job g) s q in inl (o.0, o.1)
held low down (e ∷ es) (f ∷ fs) n rec rest (l, g, h) (d, i, k) s q =
    let o =
    entry_one e.number f.number e.job f.job (book_bytes es) (book_bytes fs ++ (entry_bytes n rec ++ rest))
    (formed_fits e.job g) (formed_fits f.job i)
    (q ∙ append_assoc (entry_of f) (book_bytes fs) (entry_bytes n rec ++ rest)) in
    inr (held (e.number + 1) (f.number + 1) es fs n rec rest h k s o.2)

-- what a good book holds stands among its entries
pub holds_has : (book : List ℕ) (r : Read 0 book) (n : ℕ) (rec : List ℕ) → AllBytes book → Holds book n rec → Has n rec r.entries
holds_has book r n rec b h =
    let f =
    read h.front (bytes_before h.front (entry_bytes n rec ++ h.rest) (subst (λ (s : List ℕ). AllBytes s) h.is b)) h.entries in
    held 0 0 r.entries f.entries n rec h.rest r.rise f.rise h.fits
    (sym r.are ∙ h.is ∙ ap (λ (s : List ℕ). s ++ (entry_bytes n rec ++ h.rest)) f.are)

-- an entry among others, as it stands
pub entry_holds :
    (lo : List Entry) (e : Entry) (hi : List Entry) → Rises 0 (lo ++ e ∷ hi) → formed_told e.job ≡ Ok tt →
    Holds (book_bytes (lo ++ e ∷ hi)) e.number e.job
unfolding book_bytes
entry_holds lo e hi h f = record {
  front = book_bytes lo;
  rest = book_bytes hi;
  is = bytes_append lo (e ∷ hi);
  entries = rises_good 0 0 lo (rises_front 0 lo (e ∷ hi) h);
  fits = formed_fits e.job f;
}

-- where it stands
record Split (n : ℕ) (rec : List ℕ) (es : List Entry) : Type 0 where
  lo : List Entry
  hi : List Entry
  is : es ≡ lo ++ record { number = n; job = rec } ∷ hi

-- an entry among others has some before it and some after it
split : (n : ℕ) (rec : List ℕ) (es : List Entry) → Has n rec es → Split n rec es
unfolding Has
split n rec [] h = absurd h
split n rec (e ∷ es) (inl (a, b)) = record { lo = []; hi = es; is = λ i. record { number = a i; job = b i } ∷ es }
split n rec (e ∷ es) (inr h) =
    let s = split n rec es h in record { lo = e ∷ s.lo; hi = s.hi; is = ap (λ (l : List Entry). e ∷ l) s.is }

-- every job has its form
pub has_formed : (low : ℕ) (n : ℕ) (rec : List ℕ) (es : List Entry) → Rises low es → Has n rec es → formed_told rec ≡ Ok tt
unfolding Rises Has
has_formed low n rec [] h k = absurd k
has_formed low n rec (e ∷ es) (l, f, h) (inl (a, b)) = ap formed_told (sym b) ∙ f
has_formed low n rec (e ∷ es) (l, f, h) (inr k) = has_formed (e.number + 1) n rec es h k

-- what stands among the entries, the book holds
pub has_holds : (n : ℕ) (rec : List ℕ) (es : List Entry) → Rises 0 es → Has n rec es → Holds (book_bytes es) n rec
has_holds n rec es h k =
    let s = split n rec es k in
    let e : Entry = record { number = n; job = rec } in
    subst (λ (l : List Entry). Holds (book_bytes l) n rec) (sym s.is)
    (entry_holds s.lo e s.hi (subst (λ (l : List Entry). Rises 0 l) s.is h) (has_formed 0 n rec es h k))

-- no number is below the lowest
pub has_low : (low n : ℕ) (rec : List ℕ) (es : List Entry) → Rises low es → Has n rec es → low ≤ n
unfolding Rises Has
has_low low n rec [] h k = absurd k
has_low low n rec (e ∷ es) (l, f, h) (inl (a, b)) = omega arith
has_low low n rec (e ∷ es) (l, f, h) (inr k) = let r = has_low (e.number + 1) n rec es h k in omega arith

-- of one number there is one job
has_one : (low n : ℕ) (a b : List ℕ) (es : List Entry) → Rises low es → Has n a es → Has n b es → a ≡ b
unfolding Rises Has
has_one low n a b [] h k m = absurd k
has_one low n a b (e ∷ es) (l, f, h) (inl (p, q)) (inl (r, s)) = sym q ∙ s
has_one low n a b (e ∷ es) (l, f, h) (inl (p, q)) (inr m) =
    let r = has_low (e.number + 1) n b es h m in absurd (omega arith)
has_one low n a b (e ∷ es) (l, f, h) (inr k) (inl (p, q)) =
    let r = has_low (e.number + 1) n a es h k in absurd (omega arith)
has_one low n a b (e ∷ es) (l, f, h) (inr k) (inr m) = has_one (e.number + 1) n a b es h k m

-- "numbers strictly rise": a number names one job
pub one :
    (book : List ℕ) (number : ℕ) (a b : List ℕ) → AllBytes book → book_told book ≡ Ok tt →
    Holds book number a → Holds book number b → a ≡ b
one book number a b bytes good h k =
    let r = read book bytes good in
    has_one 0 number a b r.entries r.rise (holds_has book r number a bytes h) (holds_has book r number b bytes k)
