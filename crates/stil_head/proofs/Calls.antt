-- What a statement with a word says.
use Rattle.std.proofs.Common.{◌≡◌, ℕ, Bool, true, false, ◌||◌, ◌&&◌, List, [], ◌∷◌, codes, refl, sym, ap, ◌∙◌}
use Rattle.std.specs.Str.{bytes_eq}
use Rattle.std.specs.Prelude.{Result, Ok, Err, IfOk}
use Rattle.base_types.proofs.TruthValues.{or_false, bytes_are}
use Rattle.token_forms.specs.Tokens.{Token}
use Rattle.stil_syntax.specs.Shapes.{behind_labels}
use Rattle.stil_blocks.specs.Statements.{begins_word, has_word, behind_word}
use Rattle.stil_head.specs.Unsupported.{names_one, calls_scan}

-- a statement with one word hasn't the other
begins_one : (ts : List Token) → begins_word (codes "Call") ts ≡ true → begins_word (codes "Macro") ts ≡ false
begins_one [] e = refl
begins_one (t ∷ ts) e = ap (λ (text : List ℕ). bytes_eq text (codes "Macro")) (bytes_are t.text (codes "Call") e)

has_one : (s : List Token) → has_word (codes "Call") s ≡ true → has_word (codes "Macro") s ≡ false
unfolding has_word
has_one s e = begins_one (behind_labels s) e

-- a Call
pub calls_one : (f p : List ℕ → Bool) (s rest : List Token) (h is : Bool) → h ≡ has_word (codes "Call") s → h ≡ true → rest ≡ behind_word s → is ≡ names_one f rest → is ≡ calls_scan f p s
unfolding calls_scan
calls_one f p s rest h is word sure left same =
    let call : has_word (codes "Call") s ≡ true = sym word ∙ sure in
    let macro : has_word (codes "Macro") s ≡ false = has_one s call in
    let one = names_one f (behind_word s) in
    let other = names_one p (behind_word s) in
    same ∙ ap (names_one f) left ∙ sym (or_false one)
    ∙ ap (λ (b : Bool). (true && one) || (b && other)) (sym macro) ∙ ap (λ (b : Bool). (b && one) || (has_word (codes "Macro") s && other)) (sym call)

-- what an answer says, said otherwise
pub if_ok_other : {X E : Type 0} (r : Result X E) (P Q : X → Type 0) → ((x : X) → P x → Q x) → IfOk r P → IfOk r Q
if_ok_other (Ok x) P Q more h = more x h
if_ok_other (Err e) P Q more h = tt
