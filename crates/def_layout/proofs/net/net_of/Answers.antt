use Rattle.std.proofs.Common.{List, ◌++◌, map, sym, ap, ◌∙◌}
use Rattle.std.specs.List.{flat_map}
use Rattle.token_forms.specs.Tokens.{Token}
use Rattle.token_forms.specs.Parts.{token_texts}
use Rattle.def_syntax.specs.declared.net.Connection.{Connection}
use Rattle.def_layout.specs.Words.{spaced}
use Rattle.def_layout.specs.Nets.{connection_words, connection_in, kept, has_wiring}
use Rattle.def_layout.proofs.NetTexts.{net_pushed, texts_are}
use Rattle.def_layout.proofs.net.net_of.Goals as goal

pub returns-clause-text : goal.returns-clause-text
returns-clause-text c =
    c.of.ensures.value ∙ net_pushed c.args.text.now c.args.net.now c.args.stays.now c.args.added.now c.args.tokens c.text.result.now _ _ _ _ _ _ c.requires.all c.text.ensures.value c.in_ok-out.ensures.items c.in_ok-push_word.ensures.value
    (c.in_ok-push_kept.ensures.value ∙ ap (λ (cs : List Connection). c.push_word.new.out.items ++ spaced (flat_map connection_words (kept c.args.stays.now (map (connection_in c.args.text.now) cs)))) c.as_slice.ensures.value)
    c.in_ok-push_added.ensures.value
    c.in_ok-is_cut.ensures.value
    c.in_ok-close.ensures.value

pub returns-clause-cut : goal.returns-clause-cut
returns-clause-cut c = c.in_ok-is_cut.ensures.wiring ∙ ap (λ (ts : List Token). has_wiring 0 (token_texts ts)) c.requires.all ∙ ap (has_wiring 0) (sym (texts_are c.args.text.now))
