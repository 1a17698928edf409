-- `is_linear` meets its contract: the rule is tested on stored inverses.
use Rattle.signature.proofs.Inverses.{rule_tested}
use Rattle.signature.proofs.is_linear.Goals as goal

pub returns : goal.returns
returns c =
    record {
      value = rule_tested c.requires.0 c.invert.ensures c.is_affine.ensures;
      inverted = c.invert.ensures;
    }
