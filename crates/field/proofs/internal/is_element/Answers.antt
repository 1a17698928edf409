-- `internal::is_element` meets its contract: what is shifted out is nought exactly of the elements.
use Rattle.field.proofs.Shift.{shifted_test}
use Rattle.field.proofs.internal.is_element.Goals as goal

pub returns : goal.returns
returns c = shifted_test c.args.m c.args.a
