-- Bytes that stay and bytes that are replaced, as edits of a text.
use Rattle.std.specs.Prelude.{⊤}
use Rattle.std.proofs.Common.{◌≡◌, ℕ, ◌+◌, ◌-◌, ◌<◌, ◌≤◌, List, [], ◌∷◌, ◌++◌, length, take, drop, refl, sym, ap, ◌∙◌, arith, append_assoc, length-append}
use Rattle.base_types.specs.declared.span.Span.{Span}
use Rattle.splice.specs.declared.Edit.{Edit}
use Rattle.splice.specs.Spliced.{replaced, spliced, AreRising}
use Rattle.head_text.specs.Written.{edit_at}
use Rattle.head_text.proofs.Lays.{take_front, drop_front}

pub data Patch : Type 0 where
  Same : List ℕ → Patch
  Swap : List ℕ → List ℕ → Patch

-- the bytes read, and those written
abbrev pub was : List Patch → List ℕ
was [] = []
was (Same a ∷ p) = a ++ was p
was (Swap b c ∷ p) = b ++ was p

abbrev pub now : List Patch → List ℕ
now [] = []
now (Same a ∷ p) = a ++ now p
now (Swap b c ∷ p) = c ++ now p

-- the edits, where the patches begin at a place
abbrev pub patch_edits : ℕ → List Patch → List Edit
patch_edits at [] = []
patch_edits at (Same a ∷ p) = patch_edits (at + length a) p
patch_edits at (Swap b c ∷ p) = edit_at (record { start = at; end = at + length b }) c ∷ patch_edits (at + length b) p

pub was_append : (p q : List Patch) → was (p ++ q) ≡ was p ++ was q
was_append [] q = refl
was_append (Same a ∷ p) q = ap (λ (l : List ℕ). a ++ l) (was_append p q) ∙ sym (append_assoc a (was p) (was q))
was_append (Swap b c ∷ p) q = ap (λ (l : List ℕ). b ++ l) (was_append p q) ∙ sym (append_assoc b (was p) (was q))

pub now_append : (p q : List Patch) → now (p ++ q) ≡ now p ++ now q
now_append [] q = refl
now_append (Same a ∷ p) q = ap (λ (l : List ℕ). a ++ l) (now_append p q) ∙ sym (append_assoc a (now p) (now q))
now_append (Swap b c ∷ p) q = ap (λ (l : List ℕ). c ++ l) (now_append p q) ∙ sym (append_assoc c (now p) (now q))

pub edits_append : (at : ℕ) (p q : List Patch) → patch_edits at (p ++ q) ≡ patch_edits at p ++ patch_edits (at + length (was p)) q
edits_append at [] q = let e : at ≡ at + 0 = omega arith in ap (λ (n : ℕ). patch_edits n q) e
edits_append at (Same a ∷ p) q =
    let e : at + length a + length (was p) ≡ at + length (a ++ was p) = omega (arith, length-append a (was p)) in
    edits_append (at + length a) p q ∙ ap (λ (n : ℕ). patch_edits (at + length a) p ++ patch_edits n q) e
edits_append at (Swap b c ∷ p) q =
    let e : at + length b + length (was p) ≡ at + length (b ++ was p) = omega (arith, length-append b (was p)) in
    ap (λ (l : List Edit). edit_at (record { start = at; end = at + length b }) c ∷ l) (edits_append (at + length b) p q ∙ ap (λ (n : ℕ). patch_edits (at + length b) p ++ patch_edits n q) e)

-- behind each replacement some bytes stay
abbrev pub Follows : List Patch → Type 0
Follows [] = ⊥
Follows (Same a ∷ p) = 0 < length a
Follows (Swap b c ∷ p) = ⊥

abbrev pub AreSpaced : List Patch → Type 0
AreSpaced [] = ⊤
AreSpaced (Same a ∷ p) = AreSpaced p
AreSpaced (Swap b c ∷ p) = Follows p × AreSpaced p

follows_more : (p q : List Patch) → Follows p → Follows (p ++ q)
follows_more [] q f = absurd f
follows_more (Same a ∷ p) q f = f
follows_more (Swap b c ∷ p) q f = absurd f

pub spaced_append : (p q : List Patch) → AreSpaced p → AreSpaced q → AreSpaced (p ++ q)
spaced_append [] q x y = y
spaced_append (Same a ∷ p) q x y = spaced_append p q x y
spaced_append (Swap b c ∷ p) q x y = (follows_more p q x.0, spaced_append p q x.1 y)

-- one place less in front
sooner : (a b end : ℕ) (es : List Edit) → b ≤ a → AreRising a end es → AreRising b end es
sooner a b end [] less r = omega (arith, less, r)
sooner a b end (e ∷ es) less r = (let k = r.0 in omega (arith, k), r.1, r.2, r.3)

-- so the edits rise, with a byte between two of them
pub patches_rise : (at end : ℕ) (p : List Patch) → at + length (was p) ≤ end → AreSpaced p → AreRising at end (patch_edits at p)
patches_rise at end [] within x = omega arith
patches_rise at end (Same a ∷ p) within x =
    let len = length-append a (was p) in
    sooner (at + length a) at end (patch_edits (at + length a) p) (omega arith) (patches_rise (at + length a) end p (omega (arith, len)) x)
patches_rise at end (Swap b c ∷ Same a ∷ p) within x =
    let len = length-append b (a ++ was p) in
    let size = length-append a (was p) in
    let some = x.0 in (
      omega arith,
      omega arith,
      omega (arith, len),
      sooner (at + length b + length a) (at + length b + 1) end (patch_edits (at + length b + length a) p) (omega (arith, some)) (patches_rise (at + length b + length a) end p (omega (arith, len, size)) x.1),
    )
patches_rise at end (Swap b c ∷ []) within x = absurd x.0
patches_rise at end (Swap b c ∷ Swap d e ∷ p) within x = absurd x.0

replaced_at : (front b c rest : List ℕ) (at : ℕ) → at ≡ length front → replaced (edit_at (record { start = at; end = at + length b }) c) ((front ++ b) ++ rest) ≡ front ++ (c ++ rest)
replaced_at front b c rest at e =
    let k : at + length b ≡ length (front ++ b) = omega (arith, e, length-append front b) in
    ap (λ (n : ℕ). take n ((front ++ b) ++ rest) ++ (c ++ drop (at + length b) ((front ++ b) ++ rest))) e
    ∙ ap (λ (n : ℕ). take (length front) ((front ++ b) ++ rest) ++ (c ++ drop n ((front ++ b) ++ rest))) k
    ∙ ap (λ (l : List ℕ). take (length front) ((front ++ b) ++ rest) ++ (c ++ l)) (drop_front (front ++ b) rest)
    ∙ ap (λ (l : List ℕ). take (length front) l ++ (c ++ rest)) (append_assoc front b rest) ∙ ap (λ (l : List ℕ). l ++ (c ++ rest)) (take_front front (b ++ rest))

pub spliced_patches : (front : List ℕ) (p : List Patch) (at : ℕ) → at ≡ length front → spliced (front ++ was p) (patch_edits at p) ≡ front ++ now p
unfolding spliced
spliced_patches front [] at e = refl
spliced_patches front (Same a ∷ p) at e =
    let k : at + length a ≡ length (front ++ a) = omega (arith, e, length-append front a) in
    ap (λ (l : List ℕ). spliced l (patch_edits (at + length a) p)) (sym (append_assoc front a (was p))) ∙ spliced_patches (front ++ a) p (at + length a) k ∙ append_assoc front a (now p)
spliced_patches front (Swap b c ∷ p) at e =
    let k : at + length b ≡ length (front ++ b) = omega (arith, e, length-append front b) in
    let first = edit_at (record { start = at; end = at + length b }) c in
    ap (λ (l : List ℕ). replaced first (spliced l (patch_edits (at + length b) p))) (sym (append_assoc front b (was p)))
    ∙ ap (replaced first) (spliced_patches (front ++ b) p (at + length b) k) ∙ replaced_at front b c (now p) at e
