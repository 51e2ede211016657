-- The engine after a step of which only the worker and at most one shared piece changed: what `put_at` puts back is what was there.
use Rattle.std.proofs.Common.{◌≡◌, true, get_or, set}
use lib.Seq.{set-get_or}
use Rattle.parts.specs.Parts.{entry0, word0, lock0}
use Rattle.parts.specs.declared.Entry.{Entry}
use Rattle.parts.specs.declared.LockWord.{LockWord}
use Rattle.parts.specs.declared.Word.{Word}
use Rattle.steps.specs.Try as try
use Rattle.steps.specs.Try.{to_of}
use Rattle.steps.specs.Worker.{moved_of}
use Rattle.steps.specs.declared.State.{State}
use Rattle.steps.specs.declared.Worker.{Worker}
use Rattle.engine.specs.State.{sheet0, worker_at, with_worker}
use Rattle.engine.specs.Step.{view_at, put_at}
use Rattle.engine.specs.declared.Engine.{Engine}
use Rattle.engine.specs.declared.Places.{Places}
use Rattle.cells.specs.State.{with_lock, with_word, with_sheet, with_entry}

-- the worker's move alone
abbrev pub moved_to : Engine → Places → State → Engine
moved_to e at q = with_worker e at.worker (moved_of (worker_at e at.worker) q)

module _ (e : Engine) (at : Places) (q : State) where
  pub put_alone : put_at e at (to_of (view_at e at) q) ≡ moved_to e at q
  unfolding put_at view_at
  put_alone =
      λ t.
      record {
        locks = e.locks;
        words = e.words;
        word = set-get_or e.word at.word word0 t;
        lock = set-get_or e.lock at.lock lock0 t;
        sheet = set-get_or e.sheet at.sheet sheet0 t;
        program = e.program;
        entry = set-get_or e.entry at.entry entry0 t;
        worker = set e.worker at.worker (moved_of (worker_at e at.worker) q);
      }

  pub put_lock_lem : (x : LockWord) → put_at e at (to_of (try.view_with_lock (view_at e at) x) q) ≡ with_lock (moved_to e at q) at.lock x
  unfolding put_at view_at
  put_lock_lem x =
      λ t.
      record {
        locks = e.locks;
        words = e.words;
        word = set-get_or e.word at.word word0 t;
        lock = set e.lock at.lock x;
        sheet = set-get_or e.sheet at.sheet sheet0 t;
        program = e.program;
        entry = set-get_or e.entry at.entry entry0 t;
        worker = set e.worker at.worker (moved_of (worker_at e at.worker) q);
      }

  pub put_word_lem : (x : Word) → put_at e at (to_of (try.view_with_word (view_at e at) x) q) ≡ with_word (moved_to e at q) at.word x
  unfolding put_at view_at
  put_word_lem x =
      λ t.
      record {
        locks = e.locks;
        words = e.words;
        word = set e.word at.word x;
        lock = set-get_or e.lock at.lock lock0 t;
        sheet = set-get_or e.sheet at.sheet sheet0 t;
        program = e.program;
        entry = set-get_or e.entry at.entry entry0 t;
        worker = set e.worker at.worker (moved_of (worker_at e at.worker) q);
      }

  -- with the worker that committed to it
  pub put_entry_lem : (x : Entry) (k : Worker) →
      put_at e at (to_of (try.view_with_entry (view_at e at) x k) q) ≡ with_entry (with_worker e at.worker (moved_of k q)) at.entry x
  unfolding put_at view_at
  put_entry_lem x k =
      λ t.
      record {
        locks = e.locks;
        words = e.words;
        word = set-get_or e.word at.word word0 t;
        lock = set-get_or e.lock at.lock lock0 t;
        sheet = set-get_or e.sheet at.sheet sheet0 t;
        program = e.program;
        entry = set e.entry at.entry x;
        worker = set e.worker at.worker (moved_of k q);
      }

  pub put_done : put_at e at (to_of (try.view_with_done (view_at e at)) q) ≡
      with_sheet (moved_to e at q) at.sheet (record { length = (get_or e.sheet at.sheet sheet0).length; done = true })
  unfolding put_at view_at
  put_done =
      λ t.
      record {
        locks = e.locks;
        words = e.words;
        word = set-get_or e.word at.word word0 t;
        lock = set-get_or e.lock at.lock lock0 t;
        sheet = set e.sheet at.sheet (record { length = (get_or e.sheet at.sheet sheet0).length; done = true });
        program = e.program;
        entry = set-get_or e.entry at.entry entry0 t;
        worker = set e.worker at.worker (moved_of (worker_at e at.worker) q);
      }
