-- The written text is read as the changed statements.
use Rattle.std.proofs.Common.{◌≡◌, ℕ, Bool, List, [], ◌∷◌, length, refl, sym, ap, ◌∙◌}
use Rattle.std.specs.List.{AllByRecursion as Each}
use Rattle.token_forms.specs.Parts.{spelled, token_texts}
use Rattle.token_forms.specs.Runs.{bytes_of, texts_of}
use Rattle.token_forms.specs.Tokens.{tokens_of}
use Rattle.verilog_syntax.specs.VerilogTokens.{texts, verilog_tokens}
use Rattle.base_types.specs.declared.span.Span.{Span}
use Rattle.verilog_syntax.proofs.VerilogLaws.{texts_law}
use Rattle.splice.proofs.Law.{written_spelled}
use Rattle.verilog_syntax.specs.declared.reading.Placed.{Placed}
use Rattle.verilog_syntax.specs.Laws.{module_parts, tokens_in}
use Rattle.verilog_syntax.proofs.SpelledLaw.{spelled_law}
use Rattle.verilog_syntax.proofs.ReadLaw.{read_law}
use Rattle.verilog_writer.specs.VerilogText.{BitEdit, text_edits, written_verilog, changed_statements, IsPlaceIn, WrittenLaw}
use Rattle.verilog_writer.proofs.Changed.{changed_parts, module_changed}
use Rattle.verilog_writer.proofs.Edited.{slots_rising, edits_made, edits_ready}
use Rattle.verilog_writer.proofs.Good.{changed_good}
use Rattle.verilog_writer.proofs.Seams.{verilog}
use Rattle.verilog_writer.proofs.Slots.{IsSlotOf, in_module, marked_module}

-- a text's tokens without their places
texts_again : (text : List ℕ) (ss : List Span) → token_texts (tokens_of text ss) ≡ texts_of text ss
texts_again text [] = refl
texts_again text (s ∷ ss) = ap (λ (l : List (List ℕ)). bytes_of text s ∷ l) (texts_again text ss)

pub tokens_texts : (text : List ℕ) → token_texts (tokens_in text) ≡ texts text
tokens_texts text = texts_again text (verilog_tokens text) ∙ sym (texts_law text)

pub slots_of : (listed : Bool) (ps : List Placed) (edits : List BitEdit) → Each (λ (e : BitEdit). IsPlaceIn e.span ps) edits → Each (λ (e : BitEdit). IsSlotOf e.span (module_parts listed ps)) edits
slots_of listed ps [] places = tt
slots_of listed ps (e ∷ edits) places = (in_module e.span listed ps places.0, slots_of listed ps edits places.1)

pub written_law : WrittenLaw
written_law text ps edits read are =
    let s = spelled_law text ps read in
    let parts = module_parts s.listed ps in
    let made = edits_made parts edits 0 0 (length text) (slots_rising text parts s.fits) are.rising (slots_of s.listed ps edits are.places) are.bits in
    let written : texts (written_verilog text edits) ≡ spelled (module_parts s.listed (changed_statements edits ps))
    = written_spelled verilog text (text_edits edits) parts (changed_parts edits parts) (marked_module s.listed ps) (edits_ready edits are.bits) s.fits made
    ∙ ap spelled (module_changed edits s.listed ps)
    in
    read_law (written_verilog text edits) s.listed (changed_statements edits ps) (changed_good edits are.bits s.listed ps s.good) (tokens_texts (written_verilog text edits) ∙ written)
