-- `divide` meets its contract: the inverse is a block of the same length, by which the value is multiplied.
use mathlib.Core.Path.{sym, ap, subst, ◌∙◌}
use lib.ListN.{length}
use Rattle.field.specs.Gf.{gf}
use Rattle.slices.specs.Elements.{Elements}
use Rattle.dyadic.specs.Entries.{length_inverse}
use Rattle.dyadic.specs.BlockElements.{inverse_elements}
use Rattle.formula.proofs.values.divide.Goals as goal

pub multiply-requires : goal.multiply-requires
multiply-requires c =
    let f = c.requires in
    let g = c.args in
    let inverted = c.invert-exists.ensures.value_after in
    record {
      width = f.width;
      log = f.log;
      length_a = f.length_a;
      short = f.short;
      length_b = ap length inverted ∙ length_inverse (gf g.m) g.other.now ∙ f.length_b;
      length_out = f.length_out;
      elements_a = f.elements_a;
      elements_b = subst (Elements g.m) (sym inverted) (inverse_elements g.m f.width g.other.now);
    }
