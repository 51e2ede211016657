-- No empty promise: histories on S with lock 0 at turn 67,108,863, so that it can be won once more; computed.
use Rattle.std.specs.Prelude.{Err, Ok}
use mathlib.Core.Path.{◌≡◌, refl}
use mathlib.Core.List.{List, [], ◌∷◌, ◌++◌}
use Prim.Native.Nat.{ℕ}
use Rattle.arrays.specs.Fresh.{words_from}
use Rattle.parts.specs.Instr.{asks_of, follows_of, word_of}
use Rattle.parts.specs.Lay.{lay}
use Rattle.parts.specs.Parts as parts
use Rattle.parts.specs.Parts.{committed_of, holds_of, is_first, register_of, with_register, worn_of}
use Rattle.parts.specs.declared.Answer.TheVariants.{RanYes, NotTaken, Worn}
use Rattle.parts.specs.declared.Refusal.TheVariants.{WorkerUnderWay, LastTurn}
use Rattle.records.specs.Bytes.{u32s_of, AllBytes}
use Rattle.records.specs.Job.{badly_formed, code_told, instr_told, instrs_of, told_by, strays_at}
use Rattle.records.specs.Setup.{guards_told, setup_told, turns_told}
use Rattle.sheets.specs.Sheets.{any_of, in_use_of, lowest_of}
use Rattle.steps.specs.Places.{helped_of, spot_of}
use Rattle.steps.specs.Try as try
use Rattle.steps.specs.Worker as worker
use Rattle.engine.specs.Step.{places_of, put_at, view_at}
use Rattle.engine.specs.Calls.{begin_of, begin_told, begun_of, collect_of, drop_of, fresh_of, setup_of, step_of}
use Rattle.engine.specs.State.{blank_of}
use Rattle.past.specs.Past.{Call, Begin, Drop, steps, AllRecords, Past}
use Rattle.histories.specs.History.{then_of, follow, sofar}
use Rattle.tables.specs.Table.{setup_s, job_a, job_b, job_skipping}
use Rattle.tables.proofs.Bytes.{all_below, all_bytes, job_bytes_lem, job_b_bytes}
use Rattle.engine.specs.Calls.{answered}

unfoldable pub setup_last : List ℕ
setup_last =
    0x1D ∷ 0x00 ∷ 0x02 ∷ 0x00 ∷ 0x02 ∷ 0x03 ∷ 0x00 ∷ 0x00 ∷ 0x01 ∷
    0x05 ∷ 0x00 ∷ 0x00 ∷ 0x00 ∷ 0x09 ∷ 0x00 ∷ 0x00 ∷ 0x00 ∷ 0x07 ∷ 0x00 ∷ 0x00 ∷ 0x00 ∷
    0xFF ∷ 0xFF ∷ 0xFF ∷ 0x03 ∷ 0x00 ∷ 0x00 ∷ 0x00 ∷ 0x00 ∷ []

pub last_bytes : AllBytes setup_last
unfolding all_below setup_last
last_bytes = all_bytes setup_last refl

abbrev pub on_last : (calls : List Call) → AllRecords calls → Past
on_last calls b = record { setup = setup_last; calls = calls; setup_bytes = last_bytes; calls_bytes = b }

-- A and B begin; A wins, and runs to its end; B looks
unfoldable pub both_begin : Past
unfolding AllRecords
both_begin = on_last (Begin 0 0 job_a ∷ Begin 1 0 job_b ∷ (steps 14 0 ++ steps 1 1)) (job_bytes_lem, (job_b_bytes, tt))

-- A wins and is dropped; B begins on the lock held at its last turn, and helps
unfoldable pub helped_last : Past
unfolding AllRecords
helped_last = on_last (Begin 0 0 job_a ∷ (steps 2 0 ++ (Drop 0 ∷ Begin 1 0 job_b ∷ steps 11 1))) (job_bytes_lem, (job_b_bytes, tt))

-- its first step alone
unfoldable pub looked_last : Past
unfolding AllRecords
looked_last = on_last (Begin 0 0 job_a ∷ (steps 2 0 ++ (Drop 0 ∷ Begin 1 0 job_b ∷ steps 1 1))) (job_bytes_lem, (job_b_bytes, tt))

-- B looks, and only then A wins and runs to its end; B's Grab fails, and it finds nothing to run
unfoldable pub late_last : Past
unfolding AllRecords
late_last =
    on_last (Begin 0 0 job_a ∷ Begin 1 0 job_b ∷ (steps 1 1 ++ (steps 14 0 ++ steps 3 1))) (job_bytes_lem, (job_b_bytes, tt))

pub record LastTurns : Type 0 where
  pub ran : (collect_of (sofar both_begin).state 0).told ≡ Ok (answered RanYes 14 2)
  pub worn : (collect_of (sofar both_begin).state 1).told ≡ Ok (answered Worn 1 0)
  pub refused : (begin_of (sofar both_begin).state 2 0 job_a).told ≡ Err LastTurn
  -- held at its last turn: the helper goes on; it is told not taken, and yet its next begin there is refused
  pub goes_on : (collect_of (sofar looked_last).state 1).told ≡ Err WorkerUnderWay
  pub helped : (collect_of (sofar helped_last).state 1).told ≡ Ok (answered NotTaken 11 2)
  pub next : (begin_of (collect_of (sofar helped_last).state 1).engine 1 0 job_b).told ≡ Err LastTurn
  -- free at its last turn, but not where Look saw it: not taken
  pub late : (collect_of (sofar late_last).state 1).told ≡ Ok (answered NotTaken 4 0)

pub last_turns : LastTurns
unfolding words_from asks_of follows_of word_of lay parts.grab_of parts.release_of parts.swap_of committed_of holds_of is_first worker.counted_of register_of with_register worn_of u32s_of badly_formed code_told instr_told instrs_of told_by strays_at guards_told setup_told turns_told any_of in_use_of lowest_of helped_of spot_of try.answer_of try.commit_step try.effect_of try.follow_step try.grab_step try.look_again_step try.look_step try.mark_step try.read_mark_step try.read_step try.release_step try.swap_step worker.began_of worker.begin_by_state worker.collect_by_state worker.collected_of worker.drop_by_state worker.dropped_of worker.step_by_state begin_of begin_told begun_of collect_of drop_of fresh_of setup_of step_of blank_of places_of put_at view_at then_of follow setup_s job_a job_skipping AllRecords all_below setup_last both_begin helped_last looked_last late_last
last_turns =
    record { ran = refl; worn = refl; refused = refl; goes_on = refl; helped = refl; next = refl; late = refl }
