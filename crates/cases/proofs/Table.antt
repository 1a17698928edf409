-- The cases hold: one computation over the table's rows.
use Rattle.std.specs.Prelude.{◌≡◌, refl, true, List, [], ◌∷◌}
use Rattle.algebra.specs.All.{all, some}
use Rattle.algebra.specs.Flags.{both_true}
use Rattle.algebra.specs.Bits.{bit_at}
use Rattle.algebra.specs.Distinct.{distinct}
use Rattle.algebra.specs.Sum.{sum}
use Rattle.algebra.specs.Tabulate.{tabulate}
use Rattle.algebra.specs.Xor.{◌⊕◌}
use Rattle.field.specs.Answers.{element_rules, element_fault, pair_fault, product_answer, inverse_answer}
use Rattle.field.specs.Product.{poly_product, cut_back, remainder, product, squares, inverse}
use Rattle.refusals.specs.Rules.{fault, unless_refused}
use Rattle.field.specs.Range.{is_width, is_element}
use Rattle.field.specs.Words.{words, word}
use Rattle.slices.specs.Elements.{all_elements}
use Rattle.slices.specs.Lengths.{is_power}
use Rattle.blocks.specs.Answers.{size_rules, block_rules, pair_rules as blockPairRules, inverse_rules, pair_fault as blockPairFault, inverse_fault as blockInverseFault, product_answer as blockProductAnswer, product_after as blockProductAfter, inverse_answer as blockInverseAnswer, inverse_after as blockInverseAfter}
use Rattle.dyadic.specs.Block.{block_product, total, quotient, block_inverse}
use Rattle.dyadic.specs.Invertible.{is_invertible}
use Rattle.params.specs.Code.{is_length, is_root_count, shape_rules, code_rules}
use Rattle.essence.specs.Choices.{choice_sum, vanishes, dependent}
use Rattle.essence.specs.Essence.{essence_from, essence_of, chosen_at, signature_of as signatureFrom}
use Rattle.essence.specs.Answers.{is_value_count, shape_rules as essenceShapeRules, essence_rules, essence_fault, essence_answer, essence_after}
use Rattle.essence.specs.Answers.{value_rules, signature_fault, signature_answer, signature_after}
use Rattle.codes.specs.Answers.{check_fault, check_answer, support_after}
use Rattle.signature.specs.Tests.{signature_rules, inverse_at, nonzero, no_zero, pair_kept, affine, linear}
use Rattle.signature.specs.Signature.{root_at, support_at}
use Rattle.algebra.specs.Lists.{same_entry, same_list}
use Rattle.algebra.specs.ListLaws.{same_list_is}
use Rattle.messages.specs.MessageRules.{message_rules}
use Rattle.words.specs.Answers.{encode_fault, encode_answer, encode_after}
use Rattle.parity.specs.Columns.{word_of, is_sum_of, is_sum, is_message_column, dimension, message_of, encoding_of}
use Rattle.algebra.specs.Places.{count, chosen, found}
use Rattle.columns.specs.Choice.{all_columns, choice_rules}
use Rattle.shortened.specs.Marks.{sent_count, sent_of, hidden_pass, hides_messages, mark_rules}
use Rattle.shortened.specs.Setting.{columns_of, setting_rules}
use Rattle.parity.specs.Word.{whole, parity_at, held, syndrome_at, is_code_word}
use Rattle.slices.specs.Bits.{all_bits}
use Rattle.nearest.specs.Repair.{differs, distance, is_near, is_repairable, repaired_of}
use Rattle.repair.specs.Answers.{word_rules, turned_count, repair_fault, repair_answer, repair_after}
use Rattle.cases.specs.Cases.{Case, element, outcome, recovery, marked, sent, block_product_of, block_inverse_of, card, signature_of, essence_for, signature_for, signature_t, signature_a, encoding_a, repair_a, is, table, agree, Hold}

agreeing : (cs : List Case) → agree cs ≡ true → Hold cs
unfolding agree
agreeing [] e = tt
agreeing (c ∷ cs) e =
    let (here, rest) = both_true (same_list c.given c.said) (agree cs) e in ((same_list_is c.given c.said).0 here, agreeing cs rest)

table_agrees : agree table ≡ true
unfolding agree table is element outcome recovery marked sent card block_product_of block_inverse_of signature_of essence_for signature_for signature_t signature_a encoding_a repair_a element_rules element_fault pair_fault product_answer inverse_answer poly_product cut_back remainder product squares inverse fault unless_refused is_width is_element words word all_elements is_power size_rules block_rules blockPairRules inverse_rules blockPairFault blockInverseFault blockProductAnswer blockProductAfter blockInverseAnswer blockInverseAfter block_product total quotient block_inverse is_invertible choice_sum vanishes dependent essence_from essence_of chosen_at signatureFrom is_value_count essenceShapeRules essence_rules essence_fault essence_answer essence_after value_rules signature_fault signature_answer signature_after check_fault check_answer support_after is_length is_root_count shape_rules signature_rules code_rules root_at support_at inverse_at nonzero no_zero pair_kept affine linear distinct message_rules encode_fault encode_answer encode_after count chosen word_of found same_list same_entry is_sum_of is_sum is_message_column dimension message_of encoding_of whole all_columns choice_rules sent_count sent_of hidden_pass hides_messages mark_rules columns_of setting_rules all_bits parity_at held syndrome_at is_code_word word_rules turned_count repair_fault repair_answer repair_after distance is_near is_repairable differs repaired_of all some bit_at sum tabulate ◌⊕◌
table_agrees = refl

pub table_holds : Hold table
table_holds = agreeing table table_agrees
