-- No empty promise: after job A ended on setup S, worker 1 begins it again on the free lock, alone; what is said of that computes.
use Rattle.std.specs.Prelude.{None, Ok}
use Prim.Native.Nat.{◌<◌}
use native.Mathlib.Omega.{arith}
use mathlib.Core.Path.{◌≡◌, refl}
use mathlib.Core.List.{[], ◌∷◌}
use Rattle.arrays.specs.Fresh.{words_from, guards_of, values_of}
use Rattle.parts.specs.Instr.{asks_of, follows_of, word_of}
use Rattle.parts.specs.Lay.{lay}
use Rattle.parts.specs.Numbers.{workers, last_turn}
use Rattle.parts.specs.Parts as parts
use Rattle.parts.specs.Parts.{committed_of, holds_of, is_first, register_of, with_register, worn_of}
use Rattle.parts.specs.declared.Answer.TheVariants.{RanYes}
use Rattle.records.specs.Bytes.{u32s_of}
use Rattle.records.specs.Job.{badly_formed, code_told, instr_told, instrs_of, told_by, job_told, strays_at}
use Rattle.records.specs.Setup.{guards_told, setup_told, turns_told}
use Rattle.sheets.specs.Sheets.{any_of, in_use_of, lowest_of}
use Rattle.steps.specs.Places.{helped_of, spot_of}
use Rattle.steps.specs.Try as try
use Rattle.steps.specs.Worker as worker
use Rattle.steps.specs.declared.State.TheVariants.{Idle}
use Rattle.engine.specs.Step.{places_of, put_at, view_at}
use Rattle.engine.specs.Calls.{begin_of, begin_told, begun_of, collect_of, drop_of, fresh_of, setup_of, step_of}
use Rattle.engine.specs.State.{blank_of, lock_at, worker_at, words_of, lock_count}
use Rattle.past.specs.Past.{AllRecords}
use Rattle.tables.specs.Table.{setup_s, job_a, job_skipping}
use Rattle.tables.proofs.Bytes.{job_bytes_lem}
use Rattle.alone.specs.Alone.{alone_from}
use Rattle.plain.specs.Plain.{ran, plain_told, plain_of, plain_left}
use mathlib.Core.Bool.{true}
use Rattle.histories.specs.History.{then_of, follow, sofar}
use Rattle.histories.specs.Plainly.{plain_on, plainly_left, alone_then, RunsPlainly}
use Rattle.histories.proofs.Demand.Cuts.{ended}
use Rattle.histories.proofs.Plainly.Plainly.{plainly}
use Rattle.engine.specs.Calls.{answered}

pub record Again : Type 0 where
  -- the premises
  pub seat : 1 < workers
  pub idle : (worker_at (sofar ended).state 1).state ≡ Idle
  pub lock : 0 < lock_count (sofar ended).state
  pub free : (lock_at (sofar ended).state 0).holder ≡ None
  pub below : (lock_at (sofar ended).state 0).turn < last_turn
  pub valid : job_told job_a 0 (guards_of (words_of (sofar ended).state)) ≡ Ok tt
  -- the plain engine: yes, after five instructions, and word 0 is 7; the worker alone: the same
  pub plain : plain_on (sofar ended).state 0 job_a ≡ Ok (ran true 5)
  pub left : plainly_left (sofar ended).state 0 job_a ≡ 7 ∷ 9 ∷ 7 ∷ []
  pub answer : (collect_of (alone_then (sofar ended) 1 0 job_a) 1).told ≡ Ok (answered RanYes 14 2)
  pub values : values_of (words_of (alone_then (sofar ended) 1 0 job_a)) ≡ 7 ∷ 9 ∷ 7 ∷ []

pub again : Again
unfolding words_from asks_of follows_of word_of lay parts.grab_of parts.release_of parts.swap_of committed_of holds_of is_first worker.counted_of register_of with_register worn_of u32s_of badly_formed code_told instr_told instrs_of told_by strays_at guards_told setup_told turns_told any_of in_use_of lowest_of helped_of spot_of try.answer_of try.commit_step try.effect_of try.follow_step try.grab_step try.look_again_step try.look_step try.mark_step try.read_mark_step try.read_step try.release_step try.swap_step worker.began_of worker.begin_by_state worker.collect_by_state worker.collected_of worker.drop_by_state worker.dropped_of worker.step_by_state begin_of begin_told begun_of collect_of drop_of fresh_of setup_of step_of blank_of places_of put_at view_at then_of follow setup_s job_a job_skipping AllRecords ended alone_from plain_told plain_of plain_left
again =
    record {
      seat = omega arith;
      idle = refl;
      lock = omega arith;
      free = refl;
      below = omega arith;
      valid = refl;
      plain = refl;
      left = refl;
      answer = refl;
      values = refl;
    }

-- so the promise speaks of it
pub again_plainly : RunsPlainly (sofar ended) 1 0 job_a
again_plainly =
    (plainly ended).alone 1 0 job_a again.seat again.idle again.lock again.free again.below job_bytes_lem again.valid
