-- The release: what a worker is about to tell is right, and its lock is free if this sheet still held it.
use Rattle.std.specs.Prelude.{None, Option, Some}
use Prim.Native.Nat.{ℕ}
use native.Mathlib.Omega.{arith}
use mathlib.Core.Path.{◌≡◌, refl, sym, ap, ◌∙◌, subst}
use mathlib.Core.Logic.{◌⊎◌, inl, inr}
use mathlib.Core.Bool.{Bool, true, false}
use mathlib.Core.List.{List}
use lib.Dec.{eqb}
use borrow.Author.Tests.{eqb-true, eqb-false}
use Rattle.parts.specs.Pick.{pick}
use Rattle.parts.specs.declared.Answer.TheVariants.{RanYes, RanNo, NotTaken}
use Rattle.parts.specs.declared.Instr.{Instr}
use Rattle.parts.specs.declared.LockWord.{LockWord}
use Rattle.steps.specs.Try.{answer_of}
use Rattle.steps.specs.declared.Run.{Run}
use Rattle.steps.specs.declared.Point.{Point}
use Rattle.steps.specs.declared.Stage.TheVariants.{Release}
use Rattle.steps.specs.declared.State.TheVariants.{UnderWay, Finished}
use Rattle.alone.specs.Alone.{alone_of}
use Rattle.alone.specs.Jobs.{gives_of}
use Rattle.alone.proofs.Jobs.{gives_length}
use Rattle.helping.specs.Machine.{Rules, Scene, Tale, act_at, fin, put, set_lock, on_to, machine_release}
use Rattle.helping.specs.Ideal.{Job, Ideal, act_in}
use Rattle.helping.specs.Ok.{Status, view_of, PointOk, JobBegins, Listed, Says, AnswerOk, TryOk, Ok, Next}
use Rattle.helping.proofs.Run.{stays}
use Rattle.helping.proofs.Alone.{done_alone}
use Rattle.helping.proofs.Change.{on_sheet}
use Rattle.helping.proofs.Frees.{over_of, free_at, frees}
use Rattle.helping.proofs.Looks.{mine, mine_named, ends}
use Rattle.helping.proofs.Runs.{lock_self}

abbrev at : ℕ → Option ℕ → LockWord
at t h = record { turn = t; holder = h }

-- a release leaves the lock word x, or frees it where it names this sheet at this turn; y is what it becomes
abbrev ReleaseWay : LockWord → LockWord → ℕ → ℕ → Type 0
ReleaseWay x y won s = (y ≡ x) ⊎ ((x ≡ at won (Some s)) × (y ≡ free_at won))

release_way : (x : LockWord) (won s : ℕ) → ReleaseWay x (machine_release x won s) won s
unfolding machine_release
release_way x won s = way x.turn x.holder
  where
    way : (t : ℕ) (h : Option ℕ) → ReleaseWay (at t h) (machine_release (at t h) won s) won s
    way t None = inl refl
    way t (Some a) = go (eqb a s) (eqb t won) refl refl
      where
        go :
            (b c : Bool) → eqb a s ≡ b → eqb t won ≡ c →
            ReleaseWay (at t (Some a)) (pick b (pick c (free_at t) (at t (Some a))) (at t (Some a))) won s
        go true true y z =
            inr
            (λ i. at (eqb-true t won z i) (Some (eqb-true a s y i)), λ i. free_at (eqb-true t won z i))
        go true false y z = inl refl
        go false c y z = inl refl

module _ (K : Rules) (E : Scene) (T : Tale) (st : ℕ → Status) (o : Ok K E T st) (i : ℕ) (r : Run) (said : Bool)
    (e : (E.worker i).state ≡ UnderWay (Point.Run r (Release said))) where
  abbrev own : ℕ
  own = (E.worker i).own

  abbrev l : ℕ
  l = (E.worker i).lock

  here : PointOk K (view_of E st) own l (Point.Run r (Release said))
  here = (mine K E T st o i (Point.Run r (Release said)) e).1

  named : TryOk K T (view_of E st) (T.tries i) (E.worker i)
  named = mine_named K E T st o i (Point.Run r (Release said)) e

  -- its own job, alone, after those before it, says this
  says : r.sheet ≡ own → Listed (Says K (T.tries i) said) (T.tries i) (T.won (T.tries i).lock)
  says z =
      let J : Job = (st r.sheet).job in
      let f = on_sheet K E T st o r.sheet here.0.0.won.is in
      let code : J.code ≡ (T.tries i).program = f.code ∙ ap E.program z ∙ named.program in
      let L : Listed (JobBegins K J) (T.tries i) (T.won (T.tries i).lock) =
      subst (λ (s : ℕ). Listed (JobBegins K (st s).job) (T.tries i) (T.won (T.tries i).lock)) (sym z)
      (named.listed (λ u. here.0.0.won.is (ap (λ (s : ℕ). (st s).kind) z ∙ u))) in
      record {
        later = L.later;
        earlier = L.earlier;
        list = L.list;
        holds =
            ap (λ (c : List Instr). (alone_of c (gives_of L.earlier K.values)).yes) (sym code) ∙
            (done_alone K J f.fine (gives_of L.earlier K.values) (gives_length L.earlier K.values) L.holds
            here.0.1.j said here.0.1.inn.2).0;
      }

  telling : AnswerOk K T (T.tries i) (answer_of r own said)
  unfolding answer_of
  telling = go (eqb r.sheet own) refl
    where
      ran :
          (b : Bool) → Listed (Says K (T.tries i) b) (T.tries i) (T.won (T.tries i).lock) →
          AnswerOk K T (T.tries i) (pick b RanYes RanNo)
      ran true L = L
      ran false L = L

      go : (b : Bool) → eqb r.sheet own ≡ b → AnswerOk K T (T.tries i) (pick b (pick said RanYes RanNo) NotTaken)
      go true z = ran said (says (eqb-true r.sheet own z))
      go false z = named.absent (here.0.0.help (eqb-false r.sheet own z))

  abbrev told : Scene → Scene
  told F = on_to F i (E.worker i) (Finished (answer_of r own said))

  pub release_ok :
      Next K (told (set_lock E l (machine_release (E.lock l) r.won r.sheet))) T
  release_ok = go (machine_release (E.lock l) r.won r.sheet) (release_way (E.lock l) r.won r.sheet)
    where
      go : (y : LockWord) → ReleaseWay (E.lock l) y r.won r.sheet → Next K (told (set_lock E l y)) T
      go y (inl z) =
          subst (λ (x : LockWord). Next K (told (set_lock E l x)) T) (sym z)
          (subst (λ (F : Scene). Next K (told F) T) (sym (lock_self E l))
          (record {
            st = st;
            ok = ends K E T st o i (Point.Run r (Release said)) e (answer_of r own said) (omega arith) telling;
          }))
      go y (inr z) =
          let J : Job = (st r.sheet).job in
          let n : ℕ = (st r.sheet).front in
          let halts : act_in J n ≡ fin said =
          ap (λ (d : Ideal). act_at J.code d.next d.registers)
          (stays J here.0.1.j said here.0.1.inn.2 n here.0.1.behind) ∙
          here.0.1.inn.2 in
          subst (λ (x : LockWord). Next K (told (set_lock E l x)) T) (sym z.1)
          (record {
            st = put st r.sheet (over_of (st r.sheet));
            ok =
                ends K (set_lock E l (free_at r.won)) T (put st r.sheet (over_of (st r.sheet)))
                (frees K E T st o r.sheet l r.won z.0 said halts (here.1 tt)) i (Point.Run r (Release said)) e
                (answer_of r own said) (omega arith) telling;
          })
