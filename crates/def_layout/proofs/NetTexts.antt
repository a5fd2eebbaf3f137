-- The text of a net, part by part, and the texts of tokens.
use Rattle.std.proofs.Common.{◌≡◌, ℕ, Bool, false, List, [], ◌∷◌, ◌++◌, length, map, refl, sym, ap, ◌∙◌, append_assoc, codes, arith}
use Rattle.std.specs.List.{flat_map}
use Rattle.std.proofs.lemmas.List.Concat.{flat_map-append}
use Rattle.base_types.specs.declared.span.Span.{Span}
use Rattle.token_forms.specs.Tokens.{Token, tokens_of}
use Rattle.token_forms.specs.Parts.{token_texts}
use Rattle.token_forms.specs.Runs.{bytes_of, texts_of}
use Rattle.token_forms.proofs.Reaches.{texts_here}
use Rattle.def_tokens.specs.DefTokens.{piece_at, def_tokens, tokens_in}
use Rattle.def_tokens.proofs.DefPieces.{def_cut}
use Rattle.def_syntax.specs.declared.net.Net.{Net}
use Rattle.def_layout.specs.declared.net.ConnectionLayout.{ConnectionLayout}
use Rattle.def_layout.specs.Words.{texts, spaced, joined}
use Rattle.def_layout.specs.Nets.{connection_words, connection_in, kept, other_words, net_words, closed, net_text}

pub same_texts : (text : List ℕ) (ss : List Span) → texts_of text ss ≡ token_texts (tokens_of text ss)
same_texts text [] = refl
same_texts text (s ∷ ss) = ap (λ (ws : List (List ℕ)). bytes_of text s ∷ ws) (same_texts text ss)

pub texts_are : (text : List ℕ) → texts text ≡ token_texts (tokens_in text)
texts_are text = texts_here piece_at def_cut (length text) text 0 (omega arith) ∙ same_texts text (def_tokens text)

pub net_pushed : (text : List ℕ) (net : Net) (marks : List Bool) (added : List ConnectionLayout) (ts : List Token) (name a b d e f g : List ℕ) → ts ≡ tokens_in text → name ≡ net.name
    → a ≡ codes "-" → b ≡ a ++ 32 ∷ name → d ≡ b ++ spaced (flat_map connection_words (kept marks (map (connection_in text) net.connections))) → e ≡ d ++ spaced (flat_map connection_words added)
    → f ≡ e ++ spaced (other_words 0 false (token_texts ts)) → g ≡ closed f → g ≡ net_text text net marks added
net_pushed text net marks added ts name a b d e f g all named p q r s t u =
    let kw = flat_map connection_words (kept marks (map (connection_in text) net.connections)) in
    let aw = flat_map connection_words added in
    let ow = other_words 0 false (texts text) in
    let os : other_words 0 false (token_texts ts) ≡ ow = ap (λ (us : List Token). other_words 0 false (token_texts us)) all ∙ ap (other_words 0 false) (sym (texts_are text)) in
    let whole : spaced (kw ++ (aw ++ ow)) ≡ spaced kw ++ (spaced aw ++ spaced ow) = flat_map-append (λ w. 32 ∷ w) kw (aw ++ ow) ∙ ap (λ (x : List ℕ). spaced kw ++ x) (flat_map-append (λ w. 32 ∷ w) aw ow) in
    let text_is : f ≡ joined (net_words text net marks added) =
    t ∙ ap (λ (ws : List (List ℕ)). e ++ spaced ws) os ∙ ap (λ (x : List ℕ). x ++ spaced ow) s ∙ append_assoc d (spaced aw) (spaced ow) ∙ ap (λ (x : List ℕ). x ++ (spaced aw ++ spaced ow)) r ∙ append_assoc b (spaced kw) (spaced aw ++ spaced ow)
    ∙ ap (λ (x : List ℕ). x ++ (spaced kw ++ (spaced aw ++ spaced ow))) q ∙ append_assoc a (32 ∷ name) (spaced kw ++ (spaced aw ++ spaced ow))
    ∙ ap (λ (x : List ℕ). x ++ (32 ∷ name ++ (spaced kw ++ (spaced aw ++ spaced ow)))) p ∙ ap (λ (x : List ℕ). codes "-" ++ (32 ∷ x ++ (spaced kw ++ (spaced aw ++ spaced ow)))) named
    ∙ ap (λ (x : List ℕ). 45 ∷ 32 ∷ (net.name ++ x)) (sym whole)
    in
    u ∙ ap closed text_is
