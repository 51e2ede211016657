-- No empty promise: a history that meets the premises of `ThereAndBack`, computed. Setup S, job A on lock 0 by worker 0, and one step of
-- it while its sheet is in use; and a park of S's state.
use Rattle.std.specs.Prelude.{Ok}
use mathlib.Core.Path.{◌≡◌, refl}
use mathlib.Core.List.{[], ◌∷◌}
use Rattle.arrays.specs.Held.{held_told}
use Rattle.records.specs.Bytes.{AllBytes, u32s_bytes}
use Rattle.past.specs.Past.{Step, after, after_all, AllRecords, Past, state_after}
use Rattle.there_and_back.specs.Records.{UsedAlong}
use Rattle.tables.specs.Table.{setup_s, job_a, job_skipping, fresh}
use Rattle.arrays.specs.Fresh.{words_from}
use Rattle.parts.specs.Instr.{asks_of, follows_of, word_of}
use Rattle.parts.specs.Lay.{lay}
use Rattle.parts.specs.Parts as parts
use Rattle.parts.specs.Parts.{committed_of, holds_of, is_first, register_of, with_register, worn_of}
use Rattle.parts.specs.Told.{refusal_number, refusal_place}
use Rattle.records.specs.Bytes.{u32s_of}
use Rattle.records.specs.Job.{badly_formed, code_told, instr_told, instrs_of, told_by, strays_at}
use Rattle.records.specs.Setup.{guards_told, setup_told, turns_told}
use Rattle.sheets.specs.Sheets.{any_of, in_use_of, lowest_of}
use Rattle.steps.specs.Places.{helped_of, spot_of}
use Rattle.steps.specs.Try as try
use Rattle.steps.specs.Worker as worker
use Rattle.engine.specs.Step.{places_of, put_at, view_at}
use Rattle.engine.specs.Calls.{begin_of, begin_told, begun_of, collect_of, drop_of, fresh_of, park_of, park_told, read_lock_of, read_word_of, setup_of, step_of}
use Rattle.engine.specs.State.{blank_of, free_sheet}
use Rattle.tables.proofs.Bytes.{setup_bytes_lem, job_bytes_lem}

-- S, with no call yet
unfoldable pub past : Past
unfolding AllRecords
past = record { setup = setup_s; calls = []; setup_bytes = setup_bytes_lem; calls_bytes = tt }

pub record Met : Type 0 where
  pub bytes : AllBytes job_a
  pub begun : (begin_of (state_after past) 0 0 job_a).told ≡ Ok tt
  pub used : UsedAlong (free_sheet (state_after past)) (begin_of (state_after past) 0 0 job_a).engine (Step 0 ∷ [])
  pub later : AllRecords (Step 0 ∷ [])
  pub parked : park_of (state_after past) 29 ≡ Ok 29

pub premises_met : Met
unfolding words_from asks_of follows_of word_of lay parts.grab_of parts.release_of parts.swap_of committed_of holds_of is_first worker.counted_of register_of with_register worn_of refusal_number refusal_place u32s_of badly_formed code_told instr_told instrs_of told_by strays_at guards_told setup_told turns_told any_of in_use_of lowest_of helped_of spot_of try.answer_of try.commit_step try.effect_of try.follow_step try.grab_step try.look_again_step try.look_step try.mark_step try.read_mark_step try.read_step try.release_step try.swap_step worker.began_of worker.begin_by_state worker.collect_by_state worker.collected_of worker.drop_by_state worker.dropped_of worker.step_by_state begin_of begin_told begun_of collect_of drop_of fresh_of read_lock_of read_word_of setup_of step_of blank_of places_of put_at view_at after after_all setup_s job_a job_skipping fresh park_of park_told held_told u32s_bytes UsedAlong AllRecords past
premises_met = record { bytes = job_bytes_lem; begun = refl; used = (refl, refl); later = tt; parked = refl }
