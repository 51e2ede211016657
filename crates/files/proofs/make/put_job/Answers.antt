-- The header and the instructions are a job record.
use Rattle.std.proofs.Common.{rules}
use Rattle.files.proofs.Makes.{job_laid}
use Rattle.files.proofs.make.put_job.Goals as goal

pub returns-clause-job_after : goal.returns-clause-job_after
returns-clause-job_after c = search (job_laid, rules) depth 8
