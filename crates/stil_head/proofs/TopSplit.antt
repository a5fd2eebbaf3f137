-- The words at the top are those of two lists.
use Rattle.std.proofs.Common.{◌≡◌, ℕ, ◌||◌, List}
use Rattle.std.specs.Str.{bytes_eq}
use Rattle.std.proofs.lemmas.List.Folds.{list_any-append}
use Rattle.token_forms.specs.Classes.{is_among}
use Rattle.stil_head.specs.TopWords.{first_words, further_words}
use Rattle.stil_head.specs.Unsupported.{top_words}

pub top_split : (word : List ℕ) → is_among top_words word ≡ (is_among first_words word || is_among further_words word)
top_split word = list_any-append (bytes_eq word) first_words further_words
