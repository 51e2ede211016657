-- Every state that the calls gave is in its ranges: setup gives such a state, and each call keeps them.
use mathlib.Core.List.{List, [], ◌∷◌}
use Rattle.engine.specs.Calls.{setup_of}
use Rattle.engine.specs.declared.Engine.{Engine}
use Rattle.ranges.specs.Good.{Good}
use Rattle.past.specs.Past.{Call, Begin, Step, Collect, Drop, ReadWord, ReadLock, Show, Park, after, after_all, AllRecords, Past, state_after}
use Rattle.ranges.proofs.Keep.{good_setup, good_begin, good_step, good_collect, good_drop}

-- after the first call of a history, with the rest of its records
pub good_call : (e : Engine) (c : Call) (cs : List Call) → Good e → AllRecords (c ∷ cs) → Good (after e c) × AllRecords cs
unfolding after AllRecords
good_call e (Begin w l rec) cs g b = (good_begin e w l rec g b.0, b.1)
good_call e (Step w) cs g b = (good_step e w g, b)
good_call e (Collect w) cs g b = (good_collect e w g, b)
good_call e (Drop w) cs g b = (good_drop e w g, b)
good_call e (ReadWord i) cs g b = (g, b)
good_call e (ReadLock l) cs g b = (g, b)
good_call e (Show s room) cs g b = (g, b)
good_call e (Park room) cs g b = (g, b)

pub good_after : (e : Engine) (h : List Call) → Good e → AllRecords h → Good (after_all e h)
unfolding after_all
good_after e [] g b = g
good_after e (c ∷ cs) g b = let next = good_call e c cs g b in good_after (after e c) cs next.0 next.1

-- every state that the calls gave
pub good_past : (p : Past) → Good (state_after p)
good_past p = good_after (setup_of p.setup).engine p.calls (good_setup p.setup p.setup_bytes) p.calls_bytes
