-- `leads` meets its contract.
use native.Mathlib.Omega.{arith}
use Rattle.locator.proofs.Turns.{leads_smaller, leads_larger}
use Rattle.locator.proofs.leads.Goals as goal

pub returns-then-p-q : goal.returns-then-p-q
returns-then-p-q c m = let args = c.args in leads_smaller args.a args.b args.p args.q m (omega arith)

pub returns : goal.returns
returns c m = let args = c.args in leads_larger args.a args.b args.p args.q m (omega arith)
