-- RAM is mapped; above it the packed number's bit is what the definition says.
use Rattle.std.proofs.Common.{rules, sym, lt-ltb, le-ltb}
use Rattle.chip.proofs.Packed.{mapped_at}
use Rattle.chip.proofs.mapped.Goals as goal

pub returns-then-n-lt208 : goal.returns-then-n-lt208
returns-then-n-lt208 c = rw (sym (mapped_at c.args.a.0 (search rules)), lt-ltb _ _ c.if-n-lt208.true)

pub returns-else-n-lt208 : goal.returns-else-n-lt208
returns-else-n-lt208 c = rw (sym (mapped_at c.args.a.0 (search rules)), le-ltb _ _ c.if-n-lt208.false)
