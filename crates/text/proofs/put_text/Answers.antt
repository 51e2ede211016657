-- A turn lays its byte past those before it.
use Rattle.std.proofs.Common.{rules, arith}
use Rattle.text.proofs.Written.{text_laid, text_end}
use Rattle.text.proofs.put_text.Goals as goal

pub loop-b-preserved : goal.loop-b-preserved
loop-b-preserved c = record { size = search rules; place = omega arith; left = search text_laid }

pub returns : goal.returns
returns c = search text_end
