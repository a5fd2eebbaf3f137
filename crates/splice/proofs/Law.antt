-- The law of written texts: where a text is spelled by parts, the text with some expressions replaced is spelled by the parts with these replaced.
use Rattle.std.proofs.Common.{◌≡◌, ℕ, List, [], length}
use Rattle.token_forms.specs.Tokens.{tokens_of}
use Rattle.std.specs.List.{AllByRecursion as Each}
use Rattle.splice.specs.declared.Edit.{Edit}
use Rattle.splice.specs.Spliced.{spliced, AreRising}
use Rattle.token_forms.specs.Parts.{Part, Fits, spelled}
use Rattle.splice.proofs.Edited.{AreEdits}
use Rattle.splice.proofs.Seams.{Seams, spans_in, texts_in, IsReady}
use Rattle.splice.proofs.Tokens.{written_tokens}
use Rattle.splice.proofs.Parts.{AreMarked, swapped_parts}
use Rattle.splice.proofs.Rising.{rising, text_ahead}

module _ (s : Seams) where
  pub are_rising : (text : List ℕ) (es : List Edit) (ps qs : List Part) → Fits ps [] (tokens_of text (spans_in s text)) → AreEdits (texts_in s) es ps qs → AreRising 0 (length text) es
  are_rising text es ps qs fits edits = rising s es ps qs (tokens_of text (spans_in s text)) 0 (length text) fits edits (text_ahead s text)

  pub written_spelled : (text : List ℕ) (es : List Edit) (ps qs : List Part) → AreMarked s ps → Each (λ (e : Edit). IsReady s e.text) es → Fits ps [] (tokens_of text (spans_in s text)) → AreEdits (texts_in s) es ps qs
      → texts_in s (spliced text es) ≡ spelled qs
  written_spelled text es ps qs marked ready fits edits =
      let tokens = tokens_of text (spans_in s text) in
      written_tokens s text es (spelled qs) (are_rising text es ps qs fits edits) (swapped_parts s es ps qs tokens marked ready fits edits)
