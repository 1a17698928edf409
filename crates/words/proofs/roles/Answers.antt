-- `roles` meets its contract: what the beginning refused is refused, and else the columns that it numbered are those of the choice.
-- The test of both lengths is found by what it says, so that a proof names no word of it.
use mathlib.Core.Path.{◌≡◌, refl, ap₂, ◌∙◌, subst}
use mathlib.Core.Bool.{Bool, true, ◌&&◌}
use mathlib.Core.List.{List}
use Prim.Native.Nat.{ℕ}
use borrow.Author.Rules.{rules}
use borrow.Author.Tests.{eqb-true}
use Rattle.algebra.specs.Flags.{both_true}
use Rattle.refusals.specs.Counted.{Count, Refused}
use Rattle.refusals.specs.Rules.{Rule}
use Rattle.refusals.specs.Testing.{handed_on}
use Rattle.parity.specs.Columns.{roles_of}
use Rattle.columns.proofs.ListedLaws.{listed_as, listed_refuses, listed_few, listed_accepted, listed_columns, listed_long, listed_passes}
use Rattle.shortened.specs.Marks.{sent_dimension, mark_rules}
use Rattle.shortened.specs.Setting.{Setting}
use Rattle.words.specs.Answers.{roles_rules, roles_fault, roles_answer, roles_after}
use Rattle.words.proofs.roles.Goals as goal

pub returns-in_err-n : goal.returns-in_err-n
unfolding roles_answer roles_after roles_fault roles_rules
returns-in_err-n c =
    let a = c.args in
    let both = ap₂ (λ (x y : Bool). x && y) c.is_all_places.ensures c.is_all_places-2.ensures in
    let listed = listed_as (listed_as c.in_err-n.ensures.listed (search rules)) both in
    let value = handed_on _ c.from_residual.ensures.1 ∙ listed_refuses listed refl _ Refused _ in
    let after = listed_refuses listed refl _ (λ i. a.out.now) _ in
    record {
      value = subst (λ (s : Setting). c.from_residual.result ≡ roles_answer a.c a.h.now s a.out.now) c.s.view_is value;
      out_after = subst (λ (s : Setting). a.out.now ≡ roles_after a.c a.h.now s a.out.now) c.s.view_is after;
    }

pub shared_ref_as_front-short_roles : goal.shared_ref_as_front-short_roles
shared_ref_as_front-short_roles c = listed_few c.in_ok-n.ensures.listed refl

pub short_roles-requires : goal.short_roles-requires
short_roles-requires c =
    let both = ap₂ (λ (x y : Bool). x && y) c.is_all_places.ensures c.is_all_places-2.ensures in
    let listed = listed_as (listed_as c.in_ok-n.ensures.listed (search rules)) both in
    let (marks, out) = both_true _ _ (listed_accepted listed refl).1 in
    (listed_columns listed refl, listed_long listed refl (eqb-true _ _ marks), listed_long listed refl (eqb-true _ _ out))

pub returns : goal.returns
unfolding roles_answer roles_after roles_fault roles_rules
returns c =
    let a = c.args in
    let both = ap₂ (λ (x y : Bool). x && y) c.is_all_places.ensures c.is_all_places-2.ensures in
    let listed = listed_as (listed_as c.in_ok-n.ensures.listed (search rules)) both in
    let record { value = count; out_after = roles } = c.short_roles.ensures in
    let hidden = c.s.inside.hidden.now in
    let marks : List ℕ → List Rule = λ cols. mark_rules a.c a.h.now cols hidden true in
    let value = listed_passes listed refl marks Refused (λ cols. Count (sent_dimension a.c a.h.now cols hidden)) count in
    let after = listed_passes listed refl marks (λ i. a.out.now) (λ cols. roles_of a.c a.h.now cols) roles in
    record {
      value = subst (λ (s : Setting). c.short_roles.result ≡ roles_answer a.c a.h.now s a.out.now) c.s.view_is value;
      out_after = subst (λ (s : Setting). c.short_roles.new.out ≡ roles_after a.c a.h.now s a.out.now) c.s.view_is after;
    }
