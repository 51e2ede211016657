-- Records there and back, over histories: a sheet in use keeps its record from call to call.
use Prim.Native.Nat.{ℕ, ◌<◌}
use mathlib.Core.Path.{◌≡◌, refl, ◌∙◌, subst}
use mathlib.Core.Bool.{true}
use mathlib.Core.List.{List, [], ◌∷◌}
use Rattle.parts.specs.Numbers.{sheets}
use Rattle.engine.specs.State.{in_use, free_sheet, sheet_record}
use Rattle.engine.specs.Calls.{begin_of}
use Rattle.engine.specs.declared.Engine.{Engine}
use Rattle.ranges.specs.Good.{Good}
use Rattle.past.specs.Past.{Call, Begin, Step, Collect, Drop, ReadWord, ReadLock, Show, Park, after, after_all, AllRecords, state_after}
use Rattle.there_and_back.specs.Records.{UsedAlong, Writes, ThereAndBack}
use Rattle.ranges.proofs.Keep.{good_begin}
use Rattle.there_and_back.proofs.Kept.{kept}
use Rattle.ranges.proofs.Laid.{lay_first}
use Rattle.there_and_back.proofs.Show.{show_begin, shows, shows_bytes}
use Rattle.there_and_back.proofs.Park.{park_setup}
use Rattle.ranges.proofs.Gave.{good_call, good_after, good_past}

-- one call, and a history, keep the record of a sheet in use
kept_call : (e : Engine) (s : ℕ) (c : Call) → Good e → in_use e s ≡ true → sheet_record (after e c) s ≡ sheet_record e s
unfolding after
kept_call e s (Begin w l rec) g u = (kept e s g u).begin w l rec
kept_call e s (Step w) g u = (kept e s g u).step w
kept_call e s (Collect w) g u = (kept e s g u).collect w
kept_call e s (Drop w) g u = (kept e s g u).drop w
kept_call e s (ReadWord i) g u = refl
kept_call e s (ReadLock l) g u = refl
kept_call e s (Show t room) g u = refl
kept_call e s (Park room) g u = refl

kept_along :
    (e : Engine) (s : ℕ) (h : List Call) → Good e → AllRecords h → UsedAlong s e h → sheet_record (after_all e h) s ≡ sheet_record e s
unfolding after_all UsedAlong
kept_along e s [] g b u = refl
kept_along e s (c ∷ cs) g b u =
    let next = good_call e c cs g b in
    kept_along (after e c) s cs next.0 next.1 u.1 ∙ kept_call e s c g u.0

used_last : (e : Engine) (s : ℕ) (h : List Call) → UsedAlong s e h → in_use (after_all e h) s ≡ true
unfolding after_all UsedAlong
used_last e s [] u = u
used_last e s (c ∷ cs) u = used_last (after e c) s cs u.1

-- a sheet in use whose record is rec: show writes rec
writes : (e : Engine) (s : ℕ) (rec : List ℕ) → Good e → s < sheets → in_use e s ≡ true → sheet_record e s ≡ rec → Writes e s rec
writes e s rec g h u q = subst (λ (r : List ℕ). Writes e s r) q itself
  where
    itself : Writes e s (sheet_record e s)
    itself =
        record {
          told = λ buf room. shows e s g h u buf room;
          left = λ buf room. shows_bytes e s g h u buf room ∙ lay_first (sheet_record e s) buf room;
        }

pub there_and_back : ThereAndBack
there_and_back =
    record {
      show =
          λ p w l rec later b a u c.
          let e = state_after p in
          let begun = (begin_of e w l rec).engine in
          let s = free_sheet e in
          let took = show_begin e w l rec (good_past p) b a in
          let good = good_begin e w l rec (good_past p) b in
          writes (after_all begun later) s rec (good_after begun later good c) took.sheet (used_last begun s later u)
          (kept_along begun s later good c u ∙ took.bytes);
      used = λ p w l rec b a. (show_begin (state_after p) w l rec (good_past p) b a).used;
      park =
          λ p buf n a.
          let took = park_setup (state_after p) buf n (good_past p) a in
          let back = took.taken in
          (took.size, took.parked, record { told = back.told; guards = back.guards; values = back.values; turns = back.turns });
    }
