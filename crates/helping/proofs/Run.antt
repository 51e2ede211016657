-- The ideal run: where it stands, how its places and counts rise, and that it stays at a halt.
use Prim.Native.Nat.{ℕ, zero, suc, ◌+◌, ◌≤◌, ◌<◌}
use mathlib.Core.Path.{◌≡◌, refl, ap, ◌∙◌}
use mathlib.Core.Bool.{Bool}
use native.Mathlib.Nat.{le_refl, le_trans}
use native.Mathlib.Omega.{arith}
use native.Mathlib.Decide.{le_ind}
use lib.ListN.{length}
use Rattle.parts.specs.declared.Follows.TheVariants.{Done, Swap}
use Rattle.parts.specs.declared.Reading.{Reading}
use Rattle.parts.specs.declared.Registers.{Registers}
use Rattle.alone.proofs.Bounds.{follows_all}
use Rattle.helping.specs.Machine.{Rules, Act, fin, go, touch, act_at, target, put}
use Rattle.helping.specs.Ideal.{Job, Ideal, raised, next_of, ideal_of, act_in, Logs, met_of, Touches, met_in, Follow, far_of, FineJob}
use Rattle.helping.proofs.Put.{put_case, put_same}

-- how each kind of instruction moves it
far_next : (a : Act) (s : Ideal) → (next_of a s).next ≡ s.next + far_of a
unfolding next_of
far_next (fin said) s = omega arith
far_next (go rs n) s = omega arith
far_next (touch w f) s =
    follows_all (λ (t : Ideal). t.next ≡ s.next + 1) (f (s.words w).value) (λ rs. omega arith) (λ new. omega arith)

pub next_in : (K : Rules) (J : Job) → FineJob K J → (n : ℕ) → (ideal_of J n).next < length J.code
unfolding ideal_of
next_in K J f zero = f.some
next_in K J f (suc n) =
    omega (arith, far_next (act_in J n) (ideal_of J n), f.inside _ (ideal_of J n).registers (next_in K J f n))

-- an instruction that asks for a word has an entry, and its entry is the reading of that word
pub logs : (a : Act) → Touches a → Logs a
logs (fin said) t = t
logs (go rs n) t = t
logs (touch w f) t = t

pub met_word : (a : Act) (s : Ideal) → Touches a → met_of a s ≡ s.words (target a)
met_word (fin said) s t = absurd t
met_word (go rs n) s t = absurd t
met_word (touch w f) s t = refl

pub next_done :
    (a : Act) (s : Ideal) (rs : Registers) → Follow a (met_of a s).value (Done rs) →
    next_of a s ≡ record { next = suc s.next; registers = rs; place = suc s.place; words = s.words }
unfolding next_of
next_done (fin said) s rs e = absurd e
next_done (go next n) s rs e = absurd e
next_done (touch w f) s rs e = rw e

pub next_swap :
    (a : Act) (s : Ideal) (new : ℕ) → Follow a (met_of a s).value (Swap new) →
    next_of a s ≡
    record {
      next = suc s.next;
      registers = s.registers;
      place = suc s.place;
      words = put s.words (target a) (raised (met_of a s) new);
    }
unfolding next_of
next_swap (fin said) s new e = absurd e
next_swap (go next n) s new e = absurd e
next_swap (touch w f) s new e = rw e

-- a measure that no instruction lowers is not lowered by many
rise :
    (J : Job) (f : Ideal → ℕ) → ((a : Act) (s : Ideal) → f s ≤ f (next_of a s)) → (j n : ℕ) → j ≤ n →
    f (ideal_of J j) ≤ f (ideal_of J n)
unfolding ideal_of
rise J f up j n h = le_ind (λ (m : ℕ). f (ideal_of J j) ≤ f (ideal_of J m)) (le_refl _) (λ m l r. le_trans r (up _ _)) n h

next_place : (a : Act) (s : Ideal) → s.place ≤ (next_of a s).place
unfolding next_of
next_place (fin said) s = le_refl _
next_place (go rs n) s = le_refl _
next_place (touch w f) s =
    follows_all (λ (t : Ideal). s.place ≤ t.place) (f (s.words w).value) (λ rs. omega arith) (λ new. omega arith)

next_count : (q : ℕ) (a : Act) (s : Ideal) → (s.words q).count ≤ ((next_of a s).words q).count
unfolding next_of
next_count q (fin said) s = le_refl _
next_count q (go rs n) s = le_refl _
next_count q (touch w f) s =
    follows_all (λ (t : Ideal). (s.words q).count ≤ (t.words q).count) (f (s.words w).value) (λ rs. le_refl _)
    (λ new.
    put_case s.words w _ (λ u. (s.words q).count ≤ u.count) q
    (λ e. omega (arith, ap (λ k. (s.words k).count) e)) (λ n. le_refl _))

counts_up : (J : Job) (q j n : ℕ) → j ≤ n → ((ideal_of J j).words q).count ≤ ((ideal_of J n).words q).count
counts_up J q = rise J (λ s. (s.words q).count) (next_count q)

pub places_up : (J : Job) (j n : ℕ) → j ≤ n → (ideal_of J j).place ≤ (ideal_of J n).place
places_up J = rise J (λ s. s.place) next_place

logs_place : (a : Act) (s : Ideal) → Logs a → (next_of a s).place ≡ suc s.place
unfolding next_of
logs_place (fin said) s t = absurd t
logs_place (go rs n) s t = absurd t
logs_place (touch w f) s t =
    follows_all (λ (u : Ideal). u.place ≡ suc s.place) (f (s.words w).value) (λ rs. refl) (λ new. refl)

pub place_up : (J : Job) (j n : ℕ) → Logs (act_in J j) → j < n → (ideal_of J j).place < (ideal_of J n).place
unfolding ideal_of
place_up J j n t h =
    omega (arith, logs_place (act_in J j) (ideal_of J j) t, places_up J (suc j) n h)

-- a swap that took effect raises the count for good
pub swapped :
    (J : Job) (j n new : ℕ) → Follow (act_in J j) (met_in J j).value (Swap new) → j < n →
    (met_in J j).count < ((ideal_of J n).words (target (act_in J j))).count
unfolding ideal_of
swapped J j n new e h =
    let w = target (act_in J j) in
    let z : (ideal_of J (suc j)).words w ≡ raised (met_in J j) new =
    ap (λ (s : Ideal). s.words w) (next_swap (act_in J j) (ideal_of J j) new e) ∙
    put_same (ideal_of J j).words w (raised (met_in J j) new) in
    omega (arith, ap (λ (u : Reading). u.count) z, counts_up J w (suc j) n h)

-- an instruction that takes a place in the log passes on
next_lag : (a : Act) (s : Ideal) → s.place ≤ s.next → (next_of a s).place ≤ (next_of a s).next
unfolding next_of
next_lag (fin said) s h = h
next_lag (go rs n) s h = omega arith
next_lag (touch w f) s h =
    follows_all (λ (t : Ideal). t.place ≤ t.next) (f (s.words w).value) (λ rs. omega arith) (λ new. omega arith)

pub lag : (J : Job) (n : ℕ) → (ideal_of J n).place ≤ (ideal_of J n).next
unfolding ideal_of
lag J zero = le_refl 0
lag J (suc n) = next_lag (act_in J n) (ideal_of J n) (lag J n)

-- each instruction raises a count by one at most, and then it takes a place in the log
next_tally :
    (a : Act) (s : Ideal) (q c : ℕ) → (s.words q).count ≤ c + s.place →
    ((next_of a s).words q).count ≤ c + (next_of a s).place
unfolding next_of
next_tally (fin said) s q c h = h
next_tally (go rs n) s q c h = h
next_tally (touch w f) s q c h =
    follows_all (λ (t : Ideal). (t.words q).count ≤ c + t.place) (f (s.words w).value) (λ rs. omega arith)
    (λ new.
    put_case s.words w _ (λ u. u.count ≤ c + suc s.place) q
    (λ e. omega (arith, ap (λ k. (s.words k).count) e)) (λ n. omega arith))

pub tally : (J : Job) (n q : ℕ) → ((ideal_of J n).words q).count ≤ (J.words q).count + (ideal_of J n).place
unfolding ideal_of
tally J zero q = omega arith
tally J (suc n) q = next_tally (act_in J n) (ideal_of J n) q (J.words q).count (tally J n q)

-- a halt is for good
pub stays : (J : Job) (j : ℕ) (said : Bool) → act_in J j ≡ fin said → (n : ℕ) → j ≤ n → ideal_of J n ≡ ideal_of J j
unfolding ideal_of next_of
stays J j said e n h =
    le_ind (λ (m : ℕ). ideal_of J m ≡ ideal_of J j) refl
    (λ m l (r : ideal_of J m ≡ ideal_of J j).
    let q : act_in J m ≡ fin said = ap (λ (s : Ideal). act_at J.code s.next s.registers) r ∙ e in
    ap (λ (b : Act). next_of b (ideal_of J m)) q ∙ r) n h
