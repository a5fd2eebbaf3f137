-- A written block closes with its last token, and with none before.
use Rattle.std.proofs.Common.{◌≡◌, inl, inr, ℕ, ◌+◌, ◌-◌, ◌<◌, Bool, true, false, cond, eqb, ◌&&◌, ◌||◌, List, [], ◌∷◌, ◌++◌, length, All, Option, Some, None, refl, sym, ap, ◌∙◌, subst, arith, length-append}
use Rattle.std.specs.List.{AllByRecursion as Each, list_all}
use Rattle.std.proofs.lemmas.Bool.{cases_Bool, true≢false, or_parts}
use Rattle.std.proofs.lemmas.Option.{same_Some}
use Rattle.std.proofs.lemmas.List.Elements.{All-head, All-tail}
use Rattle.std.proofs.lemmas.List.Sums.{list_all-from_AllPass}
use Rattle.token_forms.specs.Tokens.{Token}
use Rattle.stil_tokens.specs.StilStatements.{is_only, is_note, token_ends, depth_behind, closed_in}
use Rattle.stil_types.specs.Calls.{IsStringOf, is_load_character, is_compare_character}
use Rattle.stil_types.specs.declared.head.ScanChainDecl.{ScanChainDecl}
use Rattle.stil_parts.specs.Ending.{statement_end}
use Rattle.stil_syntax.specs.Shapes.{closes_nothing}
use Rattle.stil_calls.specs.declared.repeats.Side.{Side}
use Rattle.stil_calls.specs.declared.repeats.Side.TheVariants.{Load, Compare}
use Rattle.stil_calls.specs.Repeats.{is_character}
use Rattle.stil_writer.proofs.Data.{IsDatum, datum, and_one}
use Rattle.stil_writer.proofs.Lays.{bytes_in, laid, IsNoBrace}
use Rattle.stil_writer.proofs.Blocks.{put_data, put_line, put_side, put_lines}
use Rattle.stil_writer.proofs.Spells.{marks_none}
use Rattle.stil_writer.proofs.Transfer.{IsPlainToken}

-- a token that opens and closes no block
pub record IsInner (w : List ℕ) : Type 0 where
  pub opening : is_only 123 w ≡ false
  pub closing : is_only 125 w ≡ false

-- tokens in a block that close it at a place, and not before
pub record Closing (place : ℕ) (ts : List Token) : Type 0 where
  pub closed : (c : Bool) → closed_in c 1 ts ≡ true
  pub safe : closes_nothing 1 ts ≡ false
  pub ends : statement_end 1 ts ≡ Some place

ends_one : (a n : Bool) → ((a && false) || ((false && true) || (n && false))) ≡ false
ends_one true true = refl
ends_one true false = refl
ends_one false true = refl
ends_one false false = refl

no_end : (w : List ℕ) → IsInner w → token_ends 1 w ≡ false
no_end w i = ap (λ (t : Bool). (is_only 59 w && false) || ((t && true) || (is_note w && false))) i.closing ∙ ends_one (is_only 59 w) (is_note w)

same_depth : (d : ℕ) (w : List ℕ) → IsInner w → depth_behind d w ≡ d
same_depth d w i = ap (λ (t : Bool). cond t (d + 1) (cond (is_only 125 w) (d - 1) d)) i.opening ∙ ap (λ (t : Bool). cond t (d - 1) d) i.closing

put_token : (t : Token) (ts : List Token) (place : ℕ) → IsInner t.text → Closing place ts → Closing place (t ∷ ts)
put_token t ts place i c =
    let d = same_depth 1 t.text i in
    record {
      closed = λ b. ap (λ (n : ℕ). closed_in (token_ends 1 t.text) n ts) d ∙ c.closed (token_ends 1 t.text);
      safe = ap (λ (x : Bool). (x && false) || closes_nothing (depth_behind 1 t.text) ts) i.closing ∙ ap (λ (n : ℕ). closes_nothing n ts) d ∙ c.safe;
      ends = ap (λ (x : Bool). cond x (Some t.end) (statement_end (depth_behind 1 t.text) ts)) (no_end t.text i) ∙ ap (λ (n : ℕ). statement_end n ts) d ∙ c.ends;
    }

last_token : (t : Token) → t.text ≡ 125 ∷ [] → Closing t.end (t ∷ [])
last_token t e = record {
  closed = λ b. ap (token_ends 1) e;
  safe = ap (λ (w : List ℕ). (is_only 125 w && false) || closes_nothing (depth_behind 1 w) []) e;
  ends = ap (λ (w : List ℕ). cond (token_ends 1 w) (Some t.end) (statement_end (depth_behind 1 w) [])) e;
}

-- pieces whose tokens close a block where the pieces end
abbrev pub Closes : ℕ → List (Bool × List ℕ) → Type 0
Closes total ps = (at : ℕ) → at + length (bytes_in ps) ≡ total → Closing total (laid at ps)

put_blank : (w : List ℕ) (ps : List (Bool × List ℕ)) (total : ℕ) → Closes total ps → Closes total ((false, w) ∷ ps)
put_blank w ps total c at e = c (at + length w) (omega (arith, e, length-append w (bytes_in ps)))

put_inner : (w : List ℕ) (ps : List (Bool × List ℕ)) (total : ℕ) → IsInner w → Closes total ps → Closes total ((true, w) ∷ ps)
put_inner w ps total i c at e = put_token (record { text = w; start = at; end = at + length w }) (laid (at + length w) ps) total i (c (at + length w) (omega (arith, e, length-append w (bytes_in ps))))

put_last : (total : ℕ) → Closes total ((true, 125 ∷ []) ∷ [])
put_last total at e = subst (λ (n : ℕ). Closing n (laid at ((true, 125 ∷ []) ∷ []))) e (last_token (record { text = 125 ∷ []; start = at; end = at + length {A = ℕ} (125 ∷ []) }) refl)

string_inner : (port : List ℕ) → IsInner (34 ∷ (port ++ 34 ∷ []))
string_inner [] = record { opening = refl; closing = refl }
string_inner (b ∷ bs) = record { opening = refl; closing = refl }

datum_inner : (b : ℕ) (bs : List ℕ) → IsDatum b → IsInner (b ∷ bs)
datum_inner b [] d = record { opening = d.brace; closing = (marks_none b d).0 }
datum_inner b (c ∷ bs) d = record { opening = refl; closing = refl }

one_inner : (b : ℕ) → eqb b 123 ≡ false → eqb b 125 ≡ false → IsInner (b ∷ [])
one_inner b e f = record { opening = e; closing = f }

data_closes : (side : Side) (given : List ℕ) (more : List (Bool × List ℕ)) (total : ℕ) → list_all (is_character side) given ≡ true → Closes total more → Closes total (put_data given more)
data_closes side [] more total e c = c
data_closes side (b ∷ bs) more total e c = put_inner (b ∷ bs) more total (and_one (is_character side b) (list_all (is_character side) bs) (IsInner (b ∷ bs)) e (λ f g. datum_inner b bs (datum side b f))) c

line_closes : (side : Side) (port given : List ℕ) (more : List (Bool × List ℕ)) (total : ℕ) → list_all (is_character side) given ≡ true → Closes total more → Closes total (put_line port given more)
line_closes side port given more total e c =
    let p = 32 ∷ [] in
    let a = put_blank (10 ∷ []) more total c in
    let b = put_inner (59 ∷ []) ((false, 10 ∷ []) ∷ more) total (one_inner 59 refl refl) a in
    let d = data_closes side given ((true, 59 ∷ []) ∷ (false, 10 ∷ []) ∷ more) total e b in
    let f = put_inner (61 ∷ []) (put_data given ((true, 59 ∷ []) ∷ (false, 10 ∷ []) ∷ more)) total (one_inner 61 refl refl) d in
    let tail = (true, 61 ∷ []) ∷ put_data given ((true, 59 ∷ []) ∷ (false, 10 ∷ []) ∷ more) in
    let g = put_inner (34 ∷ (port ++ 34 ∷ [])) tail total (string_inner port) f in
    let all = (true, 34 ∷ (port ++ 34 ∷ [])) ∷ tail in
    put_blank p ((false, p) ∷ (false, p) ∷ (false, p) ∷ all) total (put_blank p ((false, p) ∷ (false, p) ∷ all) total (put_blank p ((false, p) ∷ all) total (put_blank p all total g)))

side_closes : (side : Side) (port : List ℕ) (string : Option (List ℕ)) (more : List (Bool × List ℕ)) (total : ℕ) → IsStringOf (is_character side) string → Closes total more → Closes total (put_side port string more)
side_closes side port None more total s c = c
side_closes side port (Some given) more total s c = line_closes side port given more total (list_all-from_AllPass (is_character side) given s) c

pub lines_close : (chains : List ScanChainDecl) (loads compares : List (Option (List ℕ))) (more : List (Bool × List ℕ)) (total : ℕ) → All (IsStringOf is_load_character) loads → All (IsStringOf is_compare_character) compares → Closes total more → Closes total (put_lines chains loads compares more)
lines_close [] loads compares more total a b c = c
lines_close (x ∷ cs) [] compares more total a b c = c
lines_close (x ∷ cs) (load ∷ loads) [] more total a b c = c
lines_close (x ∷ cs) (load ∷ loads) (compare ∷ compares) more total a b c =
    side_closes Load x.scan_in load _ total (All-head (IsStringOf is_load_character) load loads a)
    (side_closes Compare x.scan_out compare _ total (All-head (IsStringOf is_compare_character) compare compares b)
    (lines_close cs loads compares more total (All-tail (IsStringOf is_load_character) load loads a) (All-tail (IsStringOf is_compare_character) compare compares b) c))

abbrev pub closing_pieces : List (Bool × List ℕ)
closing_pieces = (false, 32 ∷ []) ∷ (false, 32 ∷ []) ∷ (true, 125 ∷ []) ∷ []

abbrev pub block_pieces : List ScanChainDecl → List (Option (List ℕ)) → List (Option (List ℕ)) → List (Bool × List ℕ)
block_pieces chains loads compares = (false, 10 ∷ []) ∷ put_lines chains loads compares closing_pieces

pub block_closes : (chains : List ScanChainDecl) (loads compares : List (Option (List ℕ))) (total : ℕ) → All (IsStringOf is_load_character) loads → All (IsStringOf is_compare_character) compares → Closes total (block_pieces chains loads compares)
block_closes chains loads compares total a b =
    put_blank (10 ∷ []) (put_lines chains loads compares closing_pieces) total
    (lines_close chains loads compares closing_pieces total a b
    (put_blank (32 ∷ []) ((false, 32 ∷ []) ∷ (true, 125 ∷ []) ∷ []) total (put_blank (32 ∷ []) ((true, 125 ∷ []) ∷ []) total (put_last total))))

-- before the brace nothing opens, closes or ends
pub plain_laid : (at : ℕ) (ps : List (Bool × List ℕ)) → Each IsNoBrace ps → Each IsPlainToken (laid at ps)
plain_laid at [] e = tt
plain_laid at ((true, w) ∷ ps) e = (e.0 refl, plain_laid (at + length w) ps e.1)
plain_laid at ((false, w) ∷ ps) e = plain_laid (at + length w) ps e.1

and_true : (t : Bool) → (t && true) ≡ false → t ≡ false
and_true true e = absurd (true≢false e)
and_true false e = refl

-- what holds of the tokens before the brace, whatever stands behind
pub record IsFlat (us ts us' : List Token) : Type 0 where
  pub rest : closes_nothing 0 ts ≡ false
  pub safe : closes_nothing 0 (us ++ us') ≡ closes_nothing 0 us'

first_inner : (w : List ℕ) (more : List Token) → is_only 123 w ≡ false → ((is_only 125 w && true) || closes_nothing (depth_behind 0 w) more) ≡ false → IsInner w × (closes_nothing 0 more ≡ false)
first_inner w more o e =
    let a = or_parts (is_only 125 w && true) (closes_nothing (depth_behind 0 w) more) e in
    let i : IsInner w = record { opening = o; closing = and_true (is_only 125 w) a.0 } in
    (i, ap (λ (n : ℕ). closes_nothing n more) (sym (same_depth 0 w i)) ∙ a.1)

pub flat : (us ts us' : List Token) → Each IsPlainToken us → closes_nothing 0 (us ++ ts) ≡ false → IsFlat us ts us'
flat [] ts us' p e = record { rest = e; safe = refl }
flat (u ∷ us) ts us' p e =
    let f = first_inner u.text (us ++ ts) p.0 e in
    let more = flat us ts us' p.1 f.1 in
    record {
      rest = more.rest;
      safe = ap (λ (x : Bool). (x && true) || closes_nothing (depth_behind 0 u.text) (us ++ us')) (f.0.closing) ∙ ap (λ (n : ℕ). closes_nothing n (us ++ us')) (same_depth 0 u.text f.0) ∙ more.safe;
    }

pub flat_closed : (us ts : List Token) (b : Token) (bs : List Token) (c : Bool) → Each IsPlainToken us → closes_nothing 0 (us ++ ts) ≡ false → closed_in c 0 (us ++ b ∷ bs) ≡ closed_in false 0 (b ∷ bs)
flat_closed [] ts b bs c p e = refl
flat_closed (u ∷ us) ts b bs c p e =
    let f = first_inner u.text (us ++ ts) p.0 e in
    ap (λ (n : ℕ). closed_in (token_ends 0 u.text) n (us ++ b ∷ bs)) (same_depth 0 u.text f.0) ∙ flat_closed us ts b bs (token_ends 0 u.text) p.1 f.1

-- where the first end is behind the pieces, none of them ends
pub front_ends : (ps : List (Bool × List ℕ)) (at : ℕ) (ts us : List Token) (e : ℕ) → Each IsNoBrace ps → closes_nothing 0 (laid at ps ++ ts) ≡ false → statement_end 0 (laid at ps ++ ts) ≡ Some e → at + length (bytes_in ps) < e
    → statement_end 0 (laid at ps ++ us) ≡ statement_end 0 us
front_ends [] at ts us e p safe h lt = refl
front_ends ((false, w) ∷ ps) at ts us e p safe h lt = front_ends ps (at + length w) ts us e p.1 safe h (omega (arith, lt, length-append w (bytes_in ps)))
front_ends ((true, w) ∷ ps) at ts us e p safe h lt =
    let f = first_inner w (laid (at + length w) ps ++ ts) (p.0 refl) safe in
    let d = same_depth 0 w f.0 in
    elim (cases_Bool (token_ends 0 w)) [
      | inl h1 ↦ absurd (let k : at + length w ≡ e = same_Some _ _ (sym (ap (λ (x : Bool). cond x (Some (at + length w)) (statement_end (depth_behind 0 w) (laid (at + length w) ps ++ ts))) h1) ∙ h) in omega (arith, k, lt, length-append w (bytes_in ps)))
      | inr h2 ↦ (
          let later : statement_end 0 (laid (at + length w) ps ++ ts) ≡ Some e =
          ap (λ (n : ℕ). statement_end n (laid (at + length w) ps ++ ts)) (sym d) ∙ sym (ap (λ (x : Bool). cond x (Some (at + length w)) (statement_end (depth_behind 0 w) (laid (at + length w) ps ++ ts))) h2) ∙ h in
          ap (λ (x : Bool). cond x (Some (at + length w)) (statement_end (depth_behind 0 w) (laid (at + length w) ps ++ us))) h2 ∙ ap (λ (n : ℕ). statement_end n (laid (at + length w) ps ++ us)) d
          ∙ front_ends ps (at + length w) ts us e p.1 f.1 later (omega (arith, lt, length-append w (bytes_in ps))))
    ]
