-- No empty promise: a history on setup S in which two runs share a log, at the same time, and one of them is dropped; computed. Worker 0
-- has job A, takes lock 0 and reads word 0 for A's load; worker 1, with job B, helps, and fills the first entry of the log; worker 0 goes on,
-- fills the second, at A's store, and is dropped; worker 1 goes to its end.
use Rattle.std.specs.Prelude.{Ok}
use mathlib.Core.Bool.{true, false}
use mathlib.Core.List.{[], ◌∷◌, ◌++◌}
use mathlib.Core.Path.{◌≡◌, refl}
use Rattle.arrays.specs.Fresh.{words_from}
use Rattle.parts.specs.Instr.{asks_of, follows_of, word_of}
use Rattle.parts.specs.Lay.{lay}
use Rattle.parts.specs.Parts as parts
use Rattle.parts.specs.Parts.{committed_of, holds_of, is_first, register_of, with_register, worn_of}
use Rattle.parts.specs.declared.Answer.TheVariants.{NotTaken}
use Rattle.records.specs.Bytes.{u32s_of}
use Rattle.records.specs.Job.{badly_formed, code_told, instr_told, instrs_of, job_of, told_by, strays_at}
use Rattle.records.specs.Setup.{guards_told, setup_told, turns_told}
use Rattle.sheets.specs.Sheets.{any_of, in_use_of, lowest_of}
use Rattle.steps.specs.Places.{helped_of, spot_of}
use Rattle.steps.specs.Try as try
use Rattle.steps.specs.Worker as worker
use Rattle.steps.specs.declared.State.TheVariants.{Idle}
use Rattle.engine.specs.Step.{places_of, put_at, view_at}
use Rattle.engine.specs.Calls.{begin_of, begin_told, begun_of, collect_of, drop_of, fresh_of, setup_of, step_of}
use Rattle.engine.specs.State.{blank_of, worker_at}
use Rattle.past.specs.Past.{Begin, Drop, steps, AllRecords, Past}
use Rattle.histories.specs.Filled.{made_by, sum_of, filled_entries, number_of}
use Rattle.histories.specs.Filling.{new_from}
use Rattle.histories.specs.History.{then_of, follow, sofar}
use Rattle.tables.specs.Table.{setup_s, job_a, job_b, job_skipping}
use Rattle.tables.proofs.Bytes.{job_bytes_lem, job_b_bytes}
use Rattle.histories.proofs.Demand.Cuts.{on_s}
use Rattle.engine.specs.Calls.{answered}

-- up to the drop, and all of it
unfoldable pub two_running : Past
unfolding AllRecords
two_running = on_s (Begin 0 0 job_a ∷ (steps 5 0 ++ (Begin 1 0 job_b ∷ (steps 3 1 ++ steps 5 0)))) (job_bytes_lem, (job_b_bytes, tt))

unfoldable pub two_runners : Past
unfolding AllRecords
two_runners =
    on_s (Begin 0 0 job_a ∷ (steps 5 0 ++ (Begin 1 0 job_b ∷ (steps 3 1 ++ (steps 5 0 ++ (Drop 0 ∷ steps 8 1))))))
    (job_bytes_lem, (job_b_bytes, tt))

pub record TwoRunners : Type 0 where
  -- the sheet's last owner is try 0, of job A; two fillings of its log, the later one first: by try 0 at A's store, by try 1 at A's load
  pub owners : (sofar two_runners).owners 0 ≡ record { number = 0; lock = 0; program = job_of job_a } ∷ []
  pub fillings :
      (sofar two_runners).fillings ≡
      record { job = 0; by = 0; instruction = 3; what = record { value = 5; count = 0 } } ∷
      record { job = 0; by = 1; instruction = 0; what = record { value = 5; count = 0 } } ∷
      []
  -- both tries ran job A; B's own sheet was not run
  pub ran : ((sofar two_runners).ran 0 0 ≡ true) × ((sofar two_runners).ran 1 0 ≡ true) × ((sofar two_runners).ran 1 1 ≡ false)
  -- 1 is told of the helper; 1 was lost with the drop; two entries are filled
  pub told : (collect_of (sofar two_runners).state 1).told ≡ Ok (answered NotTaken 11 1)
  pub before : (worker_at (sofar two_running).state 0).filled ≡ 1
  pub dropped : (worker_at (sofar two_runners).state 0).state ≡ Idle
  pub numbers : (number_of (sofar two_runners) 0 ≡ 1) × (number_of (sofar two_runners) 1 ≡ 1)
  pub entries : filled_entries (sofar two_runners).state 0 ≡ 2

pub two_runners_lem : TwoRunners
unfolding words_from asks_of follows_of word_of lay parts.grab_of parts.release_of parts.swap_of committed_of holds_of is_first worker.counted_of register_of with_register worn_of u32s_of badly_formed code_told instr_told instrs_of told_by strays_at guards_told setup_told turns_told any_of in_use_of lowest_of helped_of spot_of try.answer_of try.commit_step try.effect_of try.follow_step try.grab_step try.look_again_step try.look_step try.mark_step try.read_mark_step try.read_step try.release_step try.swap_step worker.began_of worker.begin_by_state worker.collect_by_state worker.collected_of worker.drop_by_state worker.dropped_of worker.step_by_state begin_of begin_told begun_of collect_of drop_of fresh_of setup_of step_of blank_of places_of put_at view_at then_of follow setup_s job_a job_skipping AllRecords new_from made_by sum_of two_running two_runners
two_runners_lem =
    record {
      owners = refl;
      fillings = refl;
      ran = (refl, refl, refl);
      told = refl;
      before = refl;
      dropped = refl;
      numbers = (refl, refl);
      entries = refl;
    }
