-- "A worker is idle, under way at a named point of its try, or finished with one of three answers." Request 03 has a fourth.
mod Names
use Names.*
use Rattle.parts.specs.Parts.{next32}
use Rattle.parts.specs.Pick.{pick}

-- by the state
abbrev pub on_state : {A : Type 0} → State → A → (Point → A) → (Answer → A) → A
on_state Idle a f g = a
on_state (UnderWay p) a f g = f p
on_state (Finished x) a f g = g x

-- an idle worker; also what the array of workers has past its end
abbrev pub worker0 : Worker
worker0 = record { state = Idle; lock = 0; own = 0; steps = 0; filled = 0 }

-- "Begin (worker, lock, job record) takes a sheet": the worker is to look at its lock
abbrev pub looking_of : ℕ → ℕ → Worker
looking_of lock sheet = record { state = UnderWay Look; lock = lock; own = sheet; steps = 0; filled = 0 }

-- A worker can't begin again until its last answer is collected or it is dropped: any other than an idle one stays.
unfoldable pub began_of : Worker → ℕ → ℕ → Worker
began_of k lock sheet = on_state k.state (looking_of lock sheet) (λ p. k) (λ x. k)

-- "Collect (worker) .. makes the worker idle."
unfoldable pub collected_of : Worker → Worker
collected_of k = on_state k.state k (λ p. k) (λ x. worker0)

-- "Drop (worker) makes a worker that isn't idle idle at any point"
unfoldable pub dropped_of : Worker → Worker
dropped_of k = on_state k.state k (λ p. worker0) (λ x. worker0)

-- The refusals that go by the worker's state. 3: "begin or collect: worker under way"; 4: "begin or step: answer not collected";
-- 11: "step, collect or drop: worker idle"
unfoldable pub begin_by_state : Worker → Told
begin_by_state k = on_state k.state (Ok tt) (λ p. Err WorkerUnderWay) (λ x. Err NotCollected)

unfoldable pub step_by_state : Worker → Told
step_by_state k = on_state k.state (Err WorkerIdle) (λ p. Ok tt) (λ x. Err NotCollected)

unfoldable pub collect_by_state : Worker → Told
collect_by_state k = on_state k.state (Err WorkerIdle) (λ p. Err WorkerUnderWay) (λ x. Ok tt)

unfoldable pub drop_by_state : Worker → Told
drop_by_state k = on_state k.state (Err WorkerIdle) (λ p. Ok tt) (λ x. Ok tt)

-- one accepted step more, and the state that it leads to
abbrev pub moved_of : Worker → State → Worker
moved_of k s = record { state = s; lock = k.lock; own = k.own; steps = next32 k.steps; filled = k.filled }

-- request 02: "the entries this worker was first to fill in its try", one more where a commit was the first
unfoldable pub counted_of : Worker → Bool → Worker
counted_of k first =
    record {
      state = k.state;
      lock = k.lock;
      own = k.own;
      steps = k.steps;
      filled = pick first (next32 k.filled) k.filled;
    }
