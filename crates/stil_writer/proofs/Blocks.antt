-- The block of a written call by its pieces, and what its tokens spell.
use Rattle.std.proofs.Common.{◌≡◌, ℕ, ◌+◌, ◌<◌, Bool, true, false, eqb, ◌&&◌, not, List, [], ◌∷◌, ◌++◌, length, All, Option, Some, None, refl, sym, ap, ◌∙◌, arith, append_assoc}
use Rattle.std.specs.List.{list_all, prefix_len}
use Rattle.std.proofs.lemmas.Bool.{not-true}
use Rattle.std.proofs.lemmas.List.Elements.{All-head, All-tail}
use Rattle.std.proofs.lemmas.List.Sums.{list_all-from_AllPass}
use Rattle.token_forms.specs.declared.piece.Piece.TheVariants.{Blank, Token as token}
use Rattle.stil_types.specs.Calls.{IsStringOf, is_load_character, is_compare_character}
use Rattle.stil_types.specs.declared.head.ScanChainDecl.{ScanChainDecl}
use Rattle.stil_tokens.specs.StilTokens.{is_run, quoted_len, piece_at}
use Rattle.stil_calls.specs.declared.repeats.Side.{Side}
use Rattle.stil_calls.specs.declared.repeats.Side.TheVariants.{Load, Compare}
use Rattle.stil_calls.specs.Repeats.{is_character}
use Rattle.stil_writer.specs.Calls.{item_line, side_line, item_lines, is_plain, ports_of}
use Rattle.stil_writer.proofs.Data.{datum, and_one}
use Rattle.stil_writer.proofs.Lays.{bytes_in, AreLaid}

-- the pieces of data
abbrev pub put_data : List ℕ → List (Bool × List ℕ) → List (Bool × List ℕ)
put_data [] more = more
put_data (b ∷ bs) more = (true, b ∷ bs) ∷ more

-- the pieces of a line
abbrev pub put_line : List ℕ → List ℕ → List (Bool × List ℕ) → List (Bool × List ℕ)
put_line port given more =
    (false, 32 ∷ []) ∷ (false, 32 ∷ []) ∷ (false, 32 ∷ []) ∷ (false, 32 ∷ []) ∷ (true, 34 ∷ (port ++ 34 ∷ [])) ∷ (true, 61 ∷ []) ∷ put_data given ((true, 59 ∷ []) ∷ (false, 10 ∷ []) ∷ more)

abbrev pub put_side : List ℕ → Option (List ℕ) → List (Bool × List ℕ) → List (Bool × List ℕ)
put_side port None more = more
put_side port (Some given) more = put_line port given more

abbrev pub put_lines : List ScanChainDecl → List (Option (List ℕ)) → List (Option (List ℕ)) → List (Bool × List ℕ) → List (Bool × List ℕ)
put_lines (c ∷ cs) (load ∷ loads) (compare ∷ compares) more = put_side c.scan_in load (put_side c.scan_out compare (put_lines cs loads compares more))
put_lines chains loads compares more = more

-- their bytes
data_bytes : (given : List ℕ) (more : List (Bool × List ℕ)) → bytes_in (put_data given more) ≡ given ++ bytes_in more
data_bytes [] more = refl
data_bytes (b ∷ bs) more = refl

line_bytes : (port given : List ℕ) (more : List (Bool × List ℕ)) → bytes_in (put_line port given more) ≡ item_line port given ++ bytes_in more
line_bytes port given more =
    let tail = 59 ∷ 10 ∷ bytes_in more in
    let d : bytes_in (put_data given ((true, 59 ∷ []) ∷ (false, 10 ∷ []) ∷ more)) ≡ given ++ tail = data_bytes given ((true, 59 ∷ []) ∷ (false, 10 ∷ []) ∷ more) in
    let left : bytes_in (put_line port given more) ≡ 32 ∷ 32 ∷ 32 ∷ 32 ∷ 34 ∷ (port ++ (34 ∷ 61 ∷ (given ++ tail))) =
    ap (λ (l : List ℕ). 32 ∷ 32 ∷ 32 ∷ 32 ∷ ((34 ∷ (port ++ 34 ∷ [])) ++ 61 ∷ l)) d ∙ ap (λ (l : List ℕ). 32 ∷ 32 ∷ 32 ∷ 32 ∷ 34 ∷ l) (append_assoc port (34 ∷ []) (61 ∷ (given ++ tail))) in
    let right : item_line port given ++ bytes_in more ≡ 32 ∷ 32 ∷ 32 ∷ 32 ∷ 34 ∷ (port ++ (34 ∷ 61 ∷ (given ++ tail))) =
    ap (λ (l : List ℕ). 32 ∷ 32 ∷ 32 ∷ 32 ∷ 34 ∷ l)
    (append_assoc port (34 ∷ 61 ∷ (given ++ 59 ∷ 10 ∷ [])) (bytes_in more) ∙ ap (λ (l : List ℕ). port ++ (34 ∷ 61 ∷ l)) (append_assoc given (59 ∷ 10 ∷ []) (bytes_in more))) in
    left ∙ sym right

side_bytes : (port : List ℕ) (string : Option (List ℕ)) (more : List (Bool × List ℕ)) → bytes_in (put_side port string more) ≡ side_line port string ++ bytes_in more
side_bytes port None more = refl
side_bytes port (Some given) more = line_bytes port given more

pub lines_bytes : (chains : List ScanChainDecl) (loads compares : List (Option (List ℕ))) (more : List (Bool × List ℕ)) → bytes_in (put_lines chains loads compares more) ≡ item_lines chains loads compares ++ bytes_in more
lines_bytes [] loads compares more = refl
lines_bytes (c ∷ cs) [] compares more = refl
lines_bytes (c ∷ cs) (load ∷ loads) [] more = refl
lines_bytes (c ∷ cs) (load ∷ loads) (compare ∷ compares) more =
    let rest = item_lines cs loads compares in
    side_bytes c.scan_in load _ ∙ ap (λ (l : List ℕ). side_line c.scan_in load ++ l) (side_bytes c.scan_out compare _ ∙ ap (λ (l : List ℕ). side_line c.scan_out compare ++ l) (lines_bytes cs loads compares more))
    ∙ ap (λ (l : List ℕ). side_line c.scan_in load ++ l) (sym (append_assoc (side_line c.scan_out compare) rest (bytes_in more)))
    ∙ sym (append_assoc (side_line c.scan_in load) (side_line c.scan_out compare ++ rest) (bytes_in more))

-- each is a piece by itself
quoted_whole : (port z : List ℕ) → is_plain port ≡ true → quoted_len 34 ((port ++ 34 ∷ []) ++ z) ≡ length (port ++ 34 ∷ [])
quoted_whole [] z e = refl
quoted_whole (b ∷ bs) z e =
    and_one (not (eqb b 34) && not (eqb b 92)) (is_plain bs) (quoted_len 34 (((b ∷ bs) ++ 34 ∷ []) ++ z) ≡ length ((b ∷ bs) ++ 34 ∷ [])) e
    (λ f g. and_one (not (eqb b 34)) (not (eqb b 92)) (quoted_len 34 (((b ∷ bs) ++ 34 ∷ []) ++ z) ≡ length ((b ∷ bs) ++ 34 ∷ [])) f
    (λ h i. let k : eqb b 34 ≡ false = not-true (eqb b 34) h in rw k (omega (arith, quoted_whole bs z g))))

string_piece : (port z : List ℕ) → is_plain port ≡ true → piece_at ((34 ∷ (port ++ 34 ∷ [])) ++ z) ≡ token (length (34 ∷ (port ++ 34 ∷ [])))
unfolding piece_at
string_piece port z e = let h : 1 + quoted_len 34 ((port ++ 34 ∷ []) ++ z) ≡ length (34 ∷ (port ++ 34 ∷ [])) = omega (arith, quoted_whole port z e) in ap token h

run_len : (side : Side) (bs z : List ℕ) → list_all (is_character side) bs ≡ true → prefix_len is_run (bs ++ 59 ∷ z) ≡ length bs
run_len side [] z e = refl
run_len side (b ∷ bs) z e = and_one (is_character side b) (list_all (is_character side) bs) (prefix_len is_run ((b ∷ bs) ++ 59 ∷ z) ≡ length (b ∷ bs)) e
    (λ f g. let d = datum side b f in rw d.run (omega (arith, run_len side bs z g)))

data_piece : (side : Side) (b : ℕ) (bs z : List ℕ) → list_all (is_character side) (b ∷ bs) ≡ true → piece_at ((b ∷ bs) ++ 59 ∷ z) ≡ token (length (b ∷ bs))
unfolding piece_at
data_piece side b bs z e = and_one (is_character side b) (list_all (is_character side) bs) (piece_at ((b ∷ bs) ++ 59 ∷ z) ≡ token (length (b ∷ bs))) e
    (λ f g. let d = datum side b f in let h : 1 + prefix_len is_run (bs ++ 59 ∷ z) ≡ length (b ∷ bs) = omega (arith, run_len side bs z g) in rw (d.blank, d.quote, d.mark, d.brace, d.slash) (ap token h))

pub blank_piece : (z : List ℕ) → piece_at (32 ∷ z) ≡ Blank 1
unfolding piece_at
blank_piece z = refl

pub line_piece : (z : List ℕ) → piece_at (10 ∷ z) ≡ Blank 1
unfolding piece_at
line_piece z = refl

equals_piece : (z : List ℕ) → piece_at (61 ∷ z) ≡ token 1
unfolding piece_at
equals_piece z = refl

end_piece : (z : List ℕ) → piece_at (59 ∷ z) ≡ token 1
unfolding piece_at
end_piece z = refl

pub close_piece : (z : List ℕ) → piece_at (125 ∷ z) ≡ token 1
unfolding piece_at
close_piece z = refl

one : (b : ℕ) → 0 < length (b ∷ [])
one b = omega arith

data_laid : (side : Side) (given : List ℕ) (z : List ℕ) (more : List (Bool × List ℕ)) → list_all (is_character side) given ≡ true → AreLaid z ((true, 59 ∷ []) ∷ more) → AreLaid z (put_data given ((true, 59 ∷ []) ∷ more))
data_laid side [] z more e l = l
data_laid side (b ∷ bs) z more e l = (omega arith, data_piece side b bs (bytes_in more ++ z) e, l)

line_laid : (side : Side) (port given : List ℕ) (z : List ℕ) (more : List (Bool × List ℕ)) → is_plain port ≡ true → list_all (is_character side) given ≡ true → AreLaid z more → AreLaid z (put_line port given more)
line_laid side port given z more plain e l =
    let given_laid = data_laid side given z ((false, 10 ∷ []) ∷ more) e (one 59, end_piece _, (one 10, line_piece _, l)) in
    (one 32, blank_piece _, (one 32, blank_piece _, (one 32, blank_piece _, (one 32, blank_piece _, (omega arith, string_piece port _ plain, (one 61, equals_piece _, given_laid))))))

side_laid : (side : Side) (port : List ℕ) (string : Option (List ℕ)) (z : List ℕ) (more : List (Bool × List ℕ)) → is_plain port ≡ true → IsStringOf (is_character side) string → AreLaid z more → AreLaid z (put_side port string more)
side_laid side port None z more plain e l = l
side_laid side port (Some given) z more plain e l = line_laid side port given z more plain (list_all-from_AllPass (is_character side) given e) l

pub lines_laid : (chains : List ScanChainDecl) (loads compares : List (Option (List ℕ))) (z : List ℕ) (more : List (Bool × List ℕ)) → list_all is_plain (ports_of chains) ≡ true
    → All (IsStringOf is_load_character) loads → All (IsStringOf is_compare_character) compares → AreLaid z more → AreLaid z (put_lines chains loads compares more)
lines_laid [] loads compares z more plain a b l = l
lines_laid (c ∷ cs) [] compares z more plain a b l = l
lines_laid (c ∷ cs) (load ∷ loads) [] z more plain a b l = l
lines_laid (c ∷ cs) (load ∷ loads) (compare ∷ compares) z more plain a b l =
    and_one (is_plain c.scan_in) _ (AreLaid z (put_lines (c ∷ cs) (load ∷ loads) (compare ∷ compares) more)) plain
    (λ f g. and_one (is_plain c.scan_out) (list_all is_plain (ports_of cs)) (AreLaid z (put_lines (c ∷ cs) (load ∷ loads) (compare ∷ compares) more)) g
    (λ h i. side_laid Load c.scan_in load z _ f (All-head (IsStringOf is_load_character) load loads a)
    (side_laid Compare c.scan_out compare z _ h (All-head (IsStringOf is_compare_character) compare compares b)
    (lines_laid cs loads compares z more i (All-tail (IsStringOf is_load_character) load loads a) (All-tail (IsStringOf is_compare_character) compare compares b) l))))
