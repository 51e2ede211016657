-- No empty promise: cuts of histories on setup S that meet the premises of demand 3, computed. Job A (A) takes lock 0 and is cut off
-- after three steps; or goes to its end; or is dropped and helped by worker 1 with job B; or B goes to its end.
use Rattle.std.specs.Prelude.{None, Ok, Some}
use Prim.Native.Nat.{◌<◌}
use native.Mathlib.Omega.{arith}
use mathlib.Core.Path.{◌≡◌, refl}
use mathlib.Core.List.{List, [], ◌∷◌}
use Rattle.arrays.specs.Fresh.{words_from, guards_of}
use Rattle.parts.specs.Instr.{asks_of, follows_of, word_of}
use Rattle.parts.specs.Lay.{lay}
use Rattle.parts.specs.Numbers.{workers}
use Rattle.parts.specs.Parts as parts
use Rattle.parts.specs.Parts.{committed_of, holds_of, is_first, register_of, with_register, worn_of}
use Rattle.parts.specs.declared.Answer.TheVariants.{RanYes, RanNo, NotTaken}
use Rattle.records.specs.Bytes.{u32s_of, AllBytes}
use Rattle.records.specs.Job.{badly_formed, code_told, instr_told, instrs_of, told_by, job_told, strays_at}
use Rattle.records.specs.Setup.{guards_told, setup_told, turns_told}
use Rattle.sheets.specs.Sheets.{any_of, in_use_of, lowest_of}
use Rattle.alone.specs.Jobs.{times}
use Rattle.steps.specs.Places.{helped_of, spot_of}
use Rattle.steps.specs.Try as try
use Rattle.steps.specs.Worker as worker
use Rattle.steps.specs.declared.Point.{Point}
use Rattle.steps.specs.declared.State.TheVariants.{Idle, UnderWay}
use Rattle.engine.specs.Step.{places_of, put_at, view_at}
use Rattle.engine.specs.Calls.{begin_of, begin_told, begun_of, collect_of, drop_of, fresh_of, setup_of, step_of}
use Rattle.engine.specs.State.{blank_of, lock_at, worker_at, words_of}
use Rattle.past.specs.Past.{Call, Begin, Step, Drop, steps, AllRecords, Past}
use Rattle.histories.specs.History.{then_of, follow, sofar}
use Rattle.tables.specs.Table.{setup_s, job_a, job_skipping, job_b}
use Rattle.tables.proofs.Bytes.{setup_bytes_lem, job_bytes_lem, job_b_bytes}
use Rattle.engine.specs.Calls.{answered}

-- a history on S of one begin, n steps, and what comes after
abbrev pub on_s : (calls : List Call) → AllRecords calls → Past
on_s calls b = record { setup = setup_s; calls = calls; setup_bytes = setup_bytes_lem; calls_bytes = b }

-- A holds lock 0, after three of its steps
unfoldable pub cut_off : Past
unfolding AllRecords
cut_off = on_s (Begin 0 0 job_a ∷ Step 0 ∷ Step 0 ∷ Step 0 ∷ []) (job_bytes_lem, tt)

-- a run of worker w to its end, n steps
unfoldable pub ended : Past
unfolding AllRecords
ended = on_s (Begin 0 0 job_a ∷ steps 14 0) (job_bytes_lem, tt)

unfoldable pub ended_no : Past
unfolding AllRecords
ended_no = on_s (Begin 0 0 job_b ∷ steps 12 0) (job_b_bytes, tt)

-- A dropped after three steps, and helped by worker 1 with B
unfoldable pub rescued : Past
unfolding AllRecords
rescued =
    on_s (Begin 0 0 job_a ∷ Step 0 ∷ Step 0 ∷ Step 0 ∷ Drop 0 ∷ Begin 1 0 job_b ∷ steps 14 1) (job_bytes_lem, (job_b_bytes, tt))

pub record Met : Type 0 where
  -- held, helping, ends, uncut: A holds lock 0, worker 1 is idle, B is valid there, worker 0 is under way
  pub held : (lock_at (sofar cut_off).state 0).holder ≡ Some 0
  pub listed : times 0 ((sofar cut_off).won 0) ≡ 1
  pub seat : 1 < workers
  pub idle : (worker_at (sofar cut_off).state 1).state ≡ Idle
  pub bytes : AllBytes job_b
  pub valid : job_told job_b 0 (guards_of (words_of (sofar cut_off).state)) ≡ Ok tt
  pub under_way : (p : Point) × ((worker_at (sofar cut_off).state 0).state ≡ UnderWay p)
  -- free, with a job in its list; ran_yes; counted
  pub free : (lock_at (sofar ended).state 0).holder ≡ None
  pub won : times 0 ((sofar ended).won 0) ≡ 1
  pub ran_yes : (collect_of (sofar ended).state 0).told ≡ Ok (answered RanYes 14 2)
  -- ran_no
  pub ran_no : (collect_of (sofar ended_no).state 0).told ≡ Ok (answered RanNo 12 2)
  -- not_taken
  pub not_taken : (collect_of (sofar rescued).state 1).told ≡ Ok (answered NotTaken 11 2)
  pub later : AllRecords []
  -- ends_helping: its Look found the lock held
  pub found : ((sofar rescued).found 1).holder ≡ Some 0

pub met : Met
unfolding words_from asks_of follows_of word_of lay parts.grab_of parts.release_of parts.swap_of committed_of holds_of is_first worker.counted_of register_of with_register worn_of u32s_of badly_formed code_told instr_told instrs_of told_by strays_at guards_told setup_told turns_told any_of in_use_of lowest_of helped_of spot_of try.answer_of try.commit_step try.effect_of try.follow_step try.grab_step try.look_again_step try.look_step try.mark_step try.read_mark_step try.read_step try.release_step try.swap_step worker.began_of worker.begin_by_state worker.collect_by_state worker.collected_of worker.drop_by_state worker.dropped_of worker.step_by_state begin_of begin_told begun_of collect_of drop_of fresh_of setup_of step_of blank_of places_of put_at view_at then_of follow setup_s job_a job_skipping AllRecords times cut_off ended ended_no rescued
met =
    record {
      held = refl;
      listed = refl;
      seat = omega arith;
      idle = refl;
      bytes = job_b_bytes;
      valid = refl;
      under_way = (_, refl);
      free = refl;
      won = refl;
      ran_yes = refl;
      ran_no = refl;
      not_taken = refl;
      later = tt;
      found = refl;
    }
