-- The walk to a head's end in a text that goes no further, turn by turn.
use Rattle.std.proofs.Common.{◌≡◌, ℕ, zero, suc, ◌+◌, ◌-◌, ◌<◌, ◌≤◌, true, List, [], ◌∷◌, length, drop, Option, Some, None, refl, sym, ap, ◌∙◌, arith}
use Rattle.stil_parts.specs.declared.gap.Comment.{Comment}
use Rattle.stil_parts.specs.declared.head.HeadTurn.TheVariants.{Passed, Here}
use Rattle.stil_parts.specs.Heads.{head_turn, head_end}

-- how far an end is behind a place
abbrev pub behind : ℕ → Option ℕ → Option ℕ
behind n None = None
behind n (Some m) = Some (n + m)

pub behind_none : (o : Option ℕ) → behind 0 o ≡ o
behind_none None = refl
behind_none (Some m) = let e : 0 + m ≡ m = omega arith in rw e refl

pub behind_both : (a b : ℕ) (o : Option ℕ) → behind a (behind b o) ≡ behind (a + b) o
behind_both a b None = refl
behind_both a b (Some m) = let e : a + (b + m) ≡ a + b + m = omega arith in rw e refl

as_behind : (o : Option ℕ) → elim o [ None ↦ None | Some n ↦ Some (1 + n) ] ≡ behind 1 o
as_behind None = refl
as_behind (Some n) = refl

end_inside : (c : Comment) (k b : ℕ) (bs : List ℕ) → head_end true c (suc k) (b ∷ bs) ≡ behind 1 (head_end true c k bs)
unfolding head_end
end_inside c k b bs = as_behind (head_end true c k bs)

-- what is passed is passed at once
pub end_jump : (c : Comment) (k : ℕ) (bs : List ℕ) → k ≤ length bs → head_end true c k bs ≡ behind k (head_end true c 0 (drop k bs))
end_jump c zero bs le = sym (behind_none (head_end true c 0 bs))
end_jump c (suc k) [] le = absurd (omega arith)
end_jump c (suc k) (b ∷ bs) le =
    let e : 1 + k ≡ suc k = omega arith in
    end_inside c k b bs ∙ ap (behind 1) (end_jump c k bs (omega arith)) ∙ behind_both 1 k (head_end true c 0 (drop k bs)) ∙ ap (λ (n : ℕ). behind n (head_end true c 0 (drop k bs))) e

pub end_here : (c : Comment) (bs : List ℕ) → 0 < length bs → head_turn true c bs ≡ Some Here → head_end true c 0 bs ≡ Some 0
unfolding head_end
end_here c [] some e = absurd (omega arith)
end_here c (b ∷ bs) some e = rw (e, head_end) refl

pub end_open : (c : Comment) (bs : List ℕ) → 0 < length bs → head_turn true c bs ≡ None → head_end true c 0 bs ≡ Some (length bs)
unfolding head_end
end_open c [] some e = absurd (omega arith)
end_open c (b ∷ bs) some e = rw (e, head_end) refl

pub end_none : (c : Comment) → head_end true c 0 [] ≡ Some 0
unfolding head_end
end_none c = refl

end_passed_as : (c d : Comment) (k b : ℕ) (bs : List ℕ) → head_turn true c (b ∷ bs) ≡ Some (Passed (suc k) d) → head_end true c 0 (b ∷ bs) ≡ behind 1 (head_end true d k bs)
unfolding head_end
end_passed_as c d k b bs e =
    let less : suc k - 1 ≡ k = omega arith in
    rw (e, head_end) (as_behind (head_end true d (suc k - 1) bs) ∙ ap (λ (n : ℕ). behind 1 (head_end true d n bs)) less)

pub end_passed : (c d : Comment) (n : ℕ) (bs : List ℕ) → 0 < n → n ≤ length bs → head_turn true c bs ≡ Some (Passed n d) → head_end true c 0 bs ≡ behind n (head_end true d 0 (drop n bs))
end_passed c d zero bs some le e = absurd (omega arith)
end_passed c d (suc k) [] some le e = absurd (omega arith)
end_passed c d (suc k) (b ∷ bs) some le e =
    let s : 1 + k ≡ suc k = omega arith in
    end_passed_as c d k b bs e ∙ ap (behind 1) (end_jump d k bs (omega arith)) ∙ behind_both 1 k (head_end true d 0 (drop k bs)) ∙ ap (λ (n : ℕ). behind n (head_end true d 0 (drop k bs))) s
