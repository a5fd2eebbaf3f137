-- The first name of each bit.
use Rattle.std.proofs.Common.{◌≡◌, ℕ, ◌+◌, ◌<◌, Bool, true, false, cond, List, [], ◌∷◌, ◌++◌, length, get_or, take, Option, Some, None, refl, sym, ap, ◌∙◌}
use Rattle.std.specs.List.{find}
use Rattle.std.specs.Option.{option_or, option_map}
use Rattle.std.proofs.lemmas.List.{take_more}
use Rattle.std.proofs.lemmas.List.Folds.{find-append}
use Rattle.head_writer.specs.declared.names.NamedBit.{NamedBit}

abbrev name_of : Option NamedBit → Option (List ℕ)
name_of o = option_map (λ n. n.name) o

or_name : (a b : Option NamedBit) → option_or (name_of a) (name_of b) ≡ name_of (option_or a b)
or_name None b = refl
or_name (Some x) b = refl

if_name : (b : Bool) (n : NamedBit) → cond b (Some n.name) None ≡ name_of (cond b (Some n) None)
if_name true n = refl
if_name false n = refl

-- with one name more
pub one_more : (test : NamedBit → Bool) (names : List NamedBit) (i : ℕ) (n : NamedBit) (old new : Option (List ℕ)) → i < length names → n ≡ get_or names i n → new ≡ option_or old (cond (test n) (Some n.name) None)
    → old ≡ option_map (λ n. n.name) (find test (take i names)) → new ≡ option_map (λ n. n.name) (find test (take (i + 1) names))
one_more test names i n old new lt is put was =
    put ∙ ap (λ (o : Option (List ℕ)). option_or o (cond (test n) (Some n.name) None)) was
    ∙ ap (option_or (name_of (find test (take i names)))) (if_name (test n) n)
    ∙ or_name (find test (take i names)) (find test (n ∷ []))
    ∙ ap name_of (sym (ap (find test) (take_more names i n lt ∙ ap (λ (m : NamedBit). take i names ++ m ∷ []) (sym is)) ∙ find-append test (take i names) (n ∷ [])))
