-- Short words in the request's words: what is sent stands for a word of all places, which is 0 at every hidden one.
use Rattle.std.specs.Prelude.{◌≡◌, false, ◌&&◌, List, ℕ, ◌<◌, length}
use Rattle.algebra.specs.Lists.{entry_of}
use Rattle.algebra.specs.Places.{count, chosen}
use Rattle.slices.specs.Bits.{Bits}
use Rattle.params.specs.declared.Parameters.{Parameters}
use Rattle.parity.specs.Columns.{is_message_column}
use Rattle.parity.specs.Word.{syndrome_at}
use Rattle.columns.specs.Choice.{all_places, all_columns}
use Rattle.shortened.specs.Marks.{is_sent}
use Rattle.shortened.specs.Setting.{Setting}
use Rattle.nearest.specs.Repair.{differs}

-- "code words that are 0 at every hidden place": code words of all places, those of the whole code or of a selection
pub record FullCodeWord (c : Parameters) (h : List ℕ) (s : Setting) (x : List ℕ) : Type 0 where
  pub long : length x ≡ all_places c s.choice
  pub bits : Bits x
  pub zero : (i : ℕ) → i < c.t → syndrome_at c h (all_columns c s.choice) x i ≡ 0
  pub hidden : (p : ℕ) → p < all_places c s.choice → is_sent s.hidden p ≡ false → entry_of x p ≡ 0

-- "with distance over sent places", of words of all places
unfoldable pub sent_distance : List ℕ → List ℕ → List ℕ → ℕ
sent_distance hidden x y = count (length hidden) (λ p. is_sent hidden p && differs x y p)

-- the message that a word of all places carries: its bytes at the sent message columns
unfoldable pub sent_message : Parameters → List ℕ → Setting → List ℕ → List ℕ
sent_message c h s x =
    chosen (length s.hidden) (λ p. is_sent s.hidden p && is_message_column c h (all_columns c s.choice) p) (entry_of x)
