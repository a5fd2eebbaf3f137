-- The words of a text with edits, run by run.
use Rattle.std.proofs.Common.{◌≡◌, ℕ, zero, suc, ◌+◌, ◌<◌, ◌≤◌, Bool, true, false, cond, not, eqb, List, [], ◌∷◌, ◌++◌, length, take, drop, refl, sym, ap, ◌∙◌, subst, inl, inr, arith, codes, length-drop, append_assoc, get_or}
use Rattle.std.specs.Str.{bytes_eq}
use Rattle.std.specs.List.{prefix_len}
use Rattle.std.proofs.lemmas.Bool.{cases_lt, and_parts, not-true}
use Rattle.std.proofs.lemmas.Bool.Decides.{nat_tests}
use Rattle.std.proofs.lemmas.List.{drop-take, drop-drop, drop_more}
use Rattle.base_types.specs.declared.span.Span.{Span}
use Rattle.token_forms.specs.declared.piece.Piece.TheVariants.{Blank, Token}
use Rattle.token_forms.specs.Pieces.{piece_len, tokens_from}
use Rattle.token_forms.specs.Tokens.{token_of, tokens_of, last_end_of, place_of}
use Rattle.token_forms.specs.Tokens.{Token as token}
use Rattle.token_forms.specs.Parts.{token_texts}
use Rattle.token_forms.specs.Runs.{bytes_of, texts_of, end_of}
use Rattle.token_forms.proofs.Spelled.{choose}
use Rattle.token_forms.proofs.Fronts.{Front, part}
use Rattle.std.proofs.lemmas.List.Sums.{prefix_len-le-length}
use Rattle.std.proofs.lemmas.Grind.{take_at_read}
use Rattle.token_forms.proofs.Reaches.{Over, First, no_tokens, turn, first_is, rest_is, piece_bytes, jump, texts_here}
use Rattle.splice.specs.declared.Edit.{Edit}
use Rattle.splice.specs.Spliced.{spliced, AreRising}
use Rattle.splice.proofs.Written.{kept, turned}
use Rattle.def_tokens.specs.DefTokens.{is_blank, is_black, len_with, has_end, run_piece, piece_at}
use Rattle.def_tokens.specs.DefSplit.{goes_on}
use Rattle.def_tokens.proofs.DefPieces.{def_cut}
use Rattle.def_layout.specs.Words.{texts}
use Rattle.def_layout.proofs.NetTexts.{same_texts}
use Rattle.def_layout.proofs.WordTokens.{none_black}
use Rattle.def_edit.specs.Seams.{WordEdit, edits_of, begins_end, IsParted, begins_quote, ends_plain, is_firm, AreWordEditsOf, RisingLaw, SeamLaw, PartedLaw, BehindLaw}
use Rattle.def_edit.proofs.seams.SeamForm.{Starts, token_black, alone, last_is}
use Rattle.def_edit.proofs.seams.Reached.{token_bytes, reach, run_end}

-- spans cut where their tokens are
pub record SpanCut (text : List ℕ) (ss : List Span) (ys zs : List token) : Type 0 where
  pub front : List Span
  pub behind : List Span
  pub is : ss ≡ front ++ behind
  pub first : tokens_of text front ≡ ys
  pub second : tokens_of text behind ≡ zs

pub span_cut : (text : List ℕ) (ss : List Span) (ys zs : List token) → tokens_of text ss ≡ ys ++ zs → SpanCut text ss ys zs
span_cut text ss [] zs e = record { front = []; behind = ss; is = refl; first = refl; second = e }
span_cut text [] (y ∷ ys) zs e = absurd cc
span_cut text (s ∷ ss) (y ∷ ys) zs e =
    let here : token_of text s ≡ y = cc in
    let tail : tokens_of text ss ≡ ys ++ zs = cc in
    let r = span_cut text ss ys zs tail in
    record {
      front = s ∷ r.front;
      behind = r.behind;
      is = ap (λ (l : List Span). s ∷ l) r.is;
      first = ap (λ (l : List token). token_of text s ∷ l) r.first ∙ ap (λ (t : token). t ∷ ys) here;
      second = r.second;
    }

last_end_is : (text : List ℕ) (s : Span) (ss : List Span) → last_end_of (token_of text s) (tokens_of text ss) ≡ end_of s ss
last_end_is text s [] = refl
last_end_is text s (u ∷ us) = last_end_is text u us

-- the token stands there
record Found (text : List ℕ) (s : Span) : Type 0 where
  pub size : ℕ
  pub token : piece_at (drop s.start text) ≡ Token size
  pub ends : s.end ≡ s.start + size

found : (k : ℕ) (text : List ℕ) (at : ℕ) (front : List Span) (s : Span) (ss : List Span) → length text ≤ at + k → tokens_from piece_at at 0 (drop at text) ≡ front ++ s ∷ ss → Found text s
found zero text at [] s ss short e = absurd (no_tokens piece_at def_cut text at s ss (omega arith) e)
found zero text at (f ∷ front) s ss short e = absurd (no_tokens piece_at def_cut text at f (front ++ s ∷ ss) (omega arith) e)
found (suc k) text at [] s ss short e =
    elim (turn piece_at def_cut text at s ss e) [
      | Over n some within is more ↦ found k text (at + n) [] s ss (omega arith) more
      | First n rest some within is more whole ↦
          let here = first_is s _ ss rest whole in
          let begin : s.start ≡ at = ap (λ (x : Span). x.start) here in
          let end : s.end ≡ at + n = ap (λ (x : Span). x.end) here in
          record { size = n; token = rw begin is; ends = omega arith }
    ]
found (suc k) text at (f ∷ front) s ss short e =
    elim (turn piece_at def_cut text at f (front ++ s ∷ ss) e) [
      | Over n some within is more ↦ found k text (at + n) (f ∷ front) s ss (omega arith) more
      | First n rest some within is more whole ↦ found k text (at + n) front s ss (omega arith) (more ∙ sym (rest_is f _ (front ++ s ∷ ss) rest whole))
    ]

by_cases : (P : Bool → Type 0) (t : Bool) → (t ≡ true → P true) → (t ≡ false → P false) → P t
by_cases P true f g = f refl
by_cases P false f g = g refl

-- the byte behind a run
free_behind : (bs : List ℕ) → goes_on (drop (prefix_len is_black bs) bs) ≡ false
free_behind [] = refl
free_behind (b ∷ bs) =
    by_cases (λ t. goes_on (drop (cond t (1 + prefix_len is_black bs) 0) (b ∷ bs)) ≡ false) (is_black b)
    (λ e. let k : 1 + prefix_len is_black bs ≡ suc (prefix_len is_black bs) = omega arith in rw k (free_behind bs)) (λ e. e)

-- behind a run whose semicolon is cut off
behind_cut : (b : ℕ) (bs : List ℕ) (k : ℕ) → prefix_len is_black bs ≡ k → has_end (take (k + 1) (b ∷ bs)) ≡ true → IsParted (drop k (b ∷ bs))
behind_cut b bs zero size end = absurd cc
behind_cut b bs (suc j) size end =
    let le = prefix_len-le-length is_black bs in
    let more : suc j + 1 ≡ suc (j + 1) = omega arith in
    let cut : take (suc j + 1) (b ∷ bs) ≡ (b ∷ take j bs) ++ get_or bs j 0 ∷ [] = ap (λ (n : ℕ). take n (b ∷ bs)) more ∙ ap (λ (x : List ℕ). b ∷ x) (take_at_read bs j 0 (omega arith)).1 in
    let semi = last_is (b ∷ take j bs) (get_or bs j 0) (rw cut at end) in
    let next : drop j bs ≡ 59 ∷ drop (j + 1) bs = drop_more bs j 0 (omega arith) ∙ ap (λ (c : ℕ). c ∷ drop (j + 1) bs) semi in
    let m : j + 1 ≡ prefix_len is_black bs = omega arith in
    let free : goes_on (drop (j + 1) bs) ≡ false = ap (λ (n : ℕ). goes_on (drop n bs)) m ∙ free_behind bs in
    inr (rw (next, free) refl)

plain_token : (z : List ℕ) (n : ℕ) → piece_at z ≡ Token n → begins_quote (take n z) ≡ false → IsParted (drop n z)
unfolding piece_at
plain_token [] n is e = absurd cc
plain_token (b ∷ bs) zero is e = let some : 0 < piece_len (Token 0) = subst (λ p. 0 < piece_len p) is (def_cut.each b bs).some in absurd (omega arith)
plain_token (b ∷ bs) (suc m) is e =
    let n = suc m in
    let k = prefix_len is_black bs in
    choose (is_blank b) (Blank (1 + prefix_len is_blank bs)) _ (Token n) is (λ t f. absurd cc)
    (λ white f. choose (eqb b 35) (Blank (1 + len_with 10 bs)) _ (Token n) f (λ t g. absurd cc)
    (λ plain g. choose (eqb b 34) (Token (1 + len_with 34 bs)) (run_piece (b ∷ bs) k) (Token n) g (λ t h. absurd cc)
    (λ free h. choose (has_end (take (k + 1) (b ∷ bs))) (Token k) (Token (k + 1)) (Token n) h
    (λ end t. let size : k ≡ n = cc in subst (λ (x : ℕ). IsParted (drop x (b ∷ bs))) size (behind_cut b bs k refl end))
    (λ no t. let size : k + 1 ≡ n = cc in let same : k ≡ m = omega arith in inl (subst (λ (x : ℕ). goes_on (drop x bs) ≡ false) same (free_behind bs))))))

last_of : Span → List Span → Span
last_of s [] = s
last_of s (t ∷ ts) = last_of t ts

all_but : Span → List Span → List Span
all_but s [] = []
all_but s (t ∷ ts) = s ∷ all_but t ts

last_cut : (s : Span) (ss more : List Span) → s ∷ ss ++ more ≡ all_but s ss ++ last_of s ss ∷ more
unfolding last_of all_but
last_cut s [] more = refl
last_cut s (t ∷ ts) more = ap (λ (l : List Span). s ∷ l) (last_cut t ts more)

last_end : (s : Span) (ss : List Span) → (last_of s ss).end ≡ end_of s ss
unfolding last_of
last_end s [] = refl
last_end s (t ∷ ts) = last_end t ts

last_plain : (text : List ℕ) (s : Span) (ss : List Span) → ends_plain (tokens_of text (s ∷ ss)) ≡ true → begins_quote (bytes_of text (last_of s ss)) ≡ false
unfolding last_of
last_plain text s [] e = not-true _ e
last_plain text s (t ∷ ts) e = last_plain text t ts e

-- behind a run that ends with no text in quotes
behind_run : (text : List ℕ) (at : ℕ) (fs : List Span) (s : Span) (ss later : List Span) → tokens_from piece_at at 0 (drop at text) ≡ fs ++ (s ∷ ss ++ later) → ends_plain (tokens_of text (s ∷ ss)) ≡ true → IsParted (drop (end_of s ss) text)
behind_run text at fs s ss later e ends =
    let last = last_of s ss in
    let cut = e ∙ ap (λ (l : List Span). fs ++ l) (last_cut s ss later) ∙ sym (append_assoc fs (all_but s ss) (last ∷ later)) in
    let f = found (length text) text at (fs ++ all_but s ss) last later (omega arith) cut in
    let plain : begins_quote (take f.size (drop last.start text)) ≡ false = subst (λ (w : List ℕ). begins_quote w ≡ false) (token_bytes text last f.size f.ends) (last_plain text s ss ends) in
    let p = plain_token (drop last.start text) f.size f.token plain in
    subst (λ (x : List ℕ). IsParted x) (drop-drop f.size last.start text ∙ ap (λ (n : ℕ). drop n text) (sym f.ends ∙ last_end s ss)) p

-- the place of an edit in the text, and the tokens around it
record Cut (text : List ℕ) (at : ℕ) (e : Edit) (front run behind : List token) : Type 0 where
  pub ordered : at ≤ e.span.start
  pub far : 0 < length front → at < e.span.start
  pub size : ℕ
  pub token : piece_at (drop e.span.start text) ≡ Token size
  pub firm : bytes_eq (take size (drop e.span.start text)) (codes ";") ≡ false
  pub some : e.span.start ≤ e.span.end
  pub inside : e.span.end ≤ length text
  pub first : Front piece_at Starts (part text at e.span.start) (token_texts front)
  pub later : tokens_of text (tokens_from piece_at e.span.end 0 (drop e.span.end text)) ≡ behind
  pub parted : ends_plain run ≡ true → IsParted (drop e.span.end text)

count_same : (text : List ℕ) (ss : List Span) → length (texts_of text ss) ≡ length ss
count_same text [] = refl
count_same text (s ∷ ss) = ap (λ (n : ℕ). suc n) (count_same text ss)

count_tokens : (text : List ℕ) (ss : List Span) → length (tokens_of text ss) ≡ length ss
count_tokens text [] = refl
count_tokens text (s ∷ ss) = ap (λ (n : ℕ). suc n) (count_tokens text ss)

cut_at : (text : List ℕ) (at : ℕ) (e : Edit) (fs rs bs : List Span) → tokens_from piece_at at 0 (drop at text) ≡ fs ++ (rs ++ bs) → is_firm (tokens_of text rs) ≡ true → e.span ≡ place_of (tokens_of text rs)
    → Cut text at e (tokens_of text fs) (tokens_of text rs) (tokens_of text bs)
cut_at text at e fs [] bs is firm place = absurd cc
cut_at text at e fs (s ∷ rs) bs is firm place =
    let firm' : bytes_eq (bytes_of text s) (codes ";") ≡ false = not-true _ firm in
    let r = reach (length text) text at fs s (rs ++ bs) (omega arith) firm' is in
    let j = run_end (length text) text s.start s rs bs (omega arith) r.rest in
    let begin : e.span.start ≡ s.start = ap (λ (x : Span). x.start) place in
    let end : e.span.end ≡ end_of s rs = ap (λ (x : Span). x.end) place ∙ last_end_is text s rs in
    let a = count_same text fs in
    let b = count_tokens text fs in
    record {
      ordered = rw begin r.ordered;
      far = λ some. rw begin (r.far (omega arith));
      size = r.size;
      token = rw begin r.token;
      firm = rw begin (subst (λ (w : List ℕ). bytes_eq w (codes ";") ≡ false) (token_bytes text s r.size r.ends) firm');
      some = rw (begin, end) j.ordered;
      inside = rw end j.within;
      first = rw begin (subst (λ (ws : List (List ℕ)). Front piece_at Starts (part text at s.start) ws) (same_texts text fs) r.front);
      later = ap (λ (n : ℕ). tokens_of text (tokens_from piece_at n 0 (drop n text))) end ∙ ap (tokens_of text) j.rest;
      parted = λ ends. subst (λ (n : ℕ). IsParted (drop n text)) (sym end) (behind_run text at fs s rs bs is ends);
    }

cut : (text : List ℕ) (at : ℕ) (e : Edit) (ts front run behind : List token) → tokens_of text (tokens_from piece_at at 0 (drop at text)) ≡ ts → ts ≡ front ++ (run ++ behind) → is_firm run ≡ true → e.span ≡ place_of run
    → Cut text at e front run behind
cut text at e ts front run behind toks is firm place =
    let a = span_cut text (tokens_from piece_at at 0 (drop at text)) front (run ++ behind) (toks ∙ is) in
    let b = span_cut text a.behind run behind a.second in
    let whole = cut_at text at e a.front b.front b.behind (a.is ∙ ap (λ (l : List Span). a.front ++ l) b.is) (subst (λ (us : List token). is_firm us ≡ true) (sym b.first) firm)
    (place ∙ ap place_of (sym b.first)) in
    rw (a.first, b.first, b.second) at whole

-- no other token begins with a semicolon before a blank or the end
no_token : (z : List ℕ) (m : ℕ) → begins_end z ≡ true → piece_at z ≡ Token m → bytes_eq (take m z) (codes ";") ≡ false → ⊥
no_token [] m ends is firm = absurd cc
no_token (b ∷ bs) m ends is firm =
    let h = and_parts (eqb b 59) (not (goes_on bs)) ends in
    let semi : b ≡ 59 = grind (arith, nat_tests) in
    let is' : piece_at (59 ∷ bs) ≡ Token m = rw semi at is in
    let firm' : bytes_eq (take m (59 ∷ bs)) (codes ";") ≡ false = rw semi at firm in
    let e = alone bs m (none_black bs (not-true _ h.1)) is' in
    absurd cc

-- a token begins at none of these places but a semicolon
behind_place : (text : List ℕ) (at start m : ℕ) → IsParted (drop at text) → at ≤ start → piece_at (drop start text) ≡ Token m → bytes_eq (take m (drop start text)) (codes ";") ≡ false → at < start
behind_place text at start m parted le is firm =
    elim (cases_lt at start) [
      | inl lt ↦ lt
      | inr ge ↦
          let same : start ≡ at = omega arith in
          let is' : piece_at (drop at text) ≡ Token m = rw same at is in
          let firm' : bytes_eq (take m (drop at text)) (codes ";") ≡ false = rw same at firm in
          elim parted [ inl free ↦ let black = token_black (drop at text) m is' in absurd cc | inr ends ↦ absurd (no_token (drop at text) m ends is' firm') ]
    ]

-- edits behind a place
rising_behind : (es : List WordEdit) (text : List ℕ) (at : ℕ) (free : Bool) (ts : List token) (ws : List (List ℕ)) → (free ≡ true → IsParted (drop at text)) → at ≤ length text
    → tokens_of text (tokens_from piece_at at 0 (drop at text)) ≡ ts → AreWordEditsOf text free ts es ws → AreRising (at + 1) (length text) (edits_of es)
rising_behind [] text at free ts ws parted le toks are = omega arith
rising_behind (e ∷ es) text at free ts ws parted le toks are =
    let c = cut text at e.edit ts are.front are.run are.behind toks are.is are.firm are.place in
    let far : at < e.edit.span.start = elim are.apart [ inl is ↦ behind_place text at e.edit.span.start c.size (parted is) c.ordered c.token c.firm | inr some ↦ c.far some ] in
    (omega arith, c.some, c.inside, rising_behind es text e.edit.span.end (ends_plain are.run) are.behind are.later c.parted c.inside c.later are.more)

pub rising_law : RisingLaw
rising_law text [] ws are = omega arith
rising_law text (e ∷ es) ws are =
    let c = cut text 0 e.edit _ are.front are.run are.behind refl are.is are.firm are.place in
    (omega arith, c.some, c.inside, rising_behind es text e.edit.span.end (ends_plain are.run) are.behind are.later c.parted c.inside c.later are.more)

-- the first bytes behind a place
same_front : (n k : ℕ) (y z : List ℕ) → take (n + k) y ≡ take (n + k) z → take k (drop n y) ≡ take k (drop n z)
same_front n k y z e = sym (drop-take n k y) ∙ ap (λ (x : List ℕ). drop n x) e ∙ drop-take n k z

goes_front : (z : List ℕ) → goes_on z ≡ goes_on (take 1 z)
goes_front [] = refl
goes_front (b ∷ bs) = refl

ends_front : (z : List ℕ) → begins_end z ≡ begins_end (take 2 z)
ends_front [] = refl
ends_front (b ∷ []) = refl
ends_front (b ∷ c ∷ cs) = refl

-- behind a semicolon and a blank
ends_inside : (z : List ℕ) → begins_end z ≡ true → (0 < length z) × (goes_on (drop 1 z) ≡ false)
ends_inside [] e = absurd cc
ends_inside (b ∷ bs) e = (omega arith, not-true _ (and_parts (eqb b 59) (not (goes_on bs)) e).1)

two_behind : (es : List WordEdit) (text : List ℕ) (at : ℕ) (free : Bool) (ts : List token) (ws : List (List ℕ)) → begins_end (drop at text) ≡ true → AreRising (at + 1) (length text) (edits_of es)
    → tokens_of text (tokens_from piece_at at 0 (drop at text)) ≡ ts → AreWordEditsOf text free ts es ws → AreRising (at + 2) (length text) (edits_of es)
two_behind [] text at free ts ws ends rising toks are =
    let i = (ends_inside (drop at text) ends).0 in
    let l = length-drop at text in
    omega arith
two_behind (e ∷ es) text at free ts ws ends rising toks are =
    let c = cut text at e.edit ts are.front are.run are.behind toks are.is are.firm are.place in
    let i = (ends_inside (drop at text) ends).1 in
    let free' : goes_on (drop (at + 1) text) ≡ false = ap goes_on (sym (drop-drop 1 at text)) ∙ i in
    let first = rising.0 in
    let far : at + 1 < e.edit.span.start = behind_place text (at + 1) e.edit.span.start c.size (inl free') (omega arith) c.token c.firm in
    (omega arith, rising.1, rising.2, rising.3)

-- from a place on
seam_from : (es : List WordEdit) (text : List ℕ) (at : ℕ) (free : Bool) (ts : List token) (ws : List (List ℕ)) → AreRising at (length text) (edits_of es)
    → tokens_of text (tokens_from piece_at at 0 (drop at text)) ≡ ts → AreWordEditsOf text free ts es ws → texts (drop at (spliced text (edits_of es))) ≡ ws
unfolding spliced
seam_from [] text at free ts ws rising toks are =
    texts_here piece_at def_cut (length text) text at (omega arith) ∙ same_texts text (tokens_from piece_at at 0 (drop at text)) ∙ ap token_texts toks ∙ sym are
seam_from (e ∷ es) text at free ts ws rising toks are =
    let c = cut text at e.edit ts are.front are.run are.behind toks are.is are.firm are.place in
    let t = turned text at e.edit (edits_of es) rising in
    let end = e.edit.span.end in
    let r = drop end (spliced text (edits_of es)) in
    let one = same_front end 1 (spliced text (edits_of es)) text (kept text (edits_of es) (end + 1) rising.3) in
    let stop : goes_on (drop end text) ≡ false → goes_on r ≡ false = λ free. goes_front r ∙ ap goes_on one ∙ sym (goes_front (drop end text)) ∙ free in
    let ends : begins_end (drop end text) ≡ true → begins_end r ≡ true = λ ends.
    let two = same_front end 2 (spliced text (edits_of es)) text (kept text (edits_of es) (end + 2) (two_behind es text end (ends_plain are.run) are.behind are.later ends rising.3 c.later are.more)) in
    ends_front r ∙ ap begins_end two ∙ sym (ends_front (drop end text)) ∙ ends in
    let more = seam_from es text end (ends_plain are.run) are.behind are.later t.rising c.later are.more in
    ap texts t.cut
    ∙ c.first.goes (e.edit.text ++ r) (begins_behind e.edit.text r are.begins)
    ∙ ap (λ (l : List (List ℕ)). token_texts are.front ++ l) (are.news.goes r stop ends ∙ ap (λ (l : List (List ℕ)). e.words ++ l) more)
    ∙ sym are.words
  where
    begins_behind : (x z : List ℕ) → goes_on x ≡ true → goes_on (x ++ z) ≡ true
    begins_behind [] z e = absurd cc
    begins_behind (b ∷ x) z e = e

pub seam_law : SeamLaw
seam_law text es ws are = seam_from es text 0 true _ ws (rising_law text es ws are) refl are

-- spans of a run that isn't empty, and those around it
record Around (text : List ℕ) (front run behind : List token) : Type 0 where
  pub before : List Span
  pub first : Span
  pub rest : List Span
  pub later : List Span
  pub is : tokens_from piece_at 0 0 text ≡ before ++ (first ∷ rest ++ later)
  pub run_is : tokens_of text (first ∷ rest) ≡ run
  pub behind_is : tokens_of text later ≡ behind
  pub end : (place_of run).end ≡ end_of first rest

around : (text : List ℕ) (front run behind : List token) → tokens_of text (tokens_from piece_at 0 0 text) ≡ front ++ (run ++ behind) → ends_plain run ≡ true → Around text front run behind
around text front run behind toks plain =
    let a = span_cut text (tokens_from piece_at 0 0 text) front (run ++ behind) toks in
    let b = span_cut text a.behind run behind a.second in
    of a.front b.front b.behind (a.is ∙ ap (λ (l : List Span). a.front ++ l) b.is) b.first b.second
  where
    of : (fs rs bs : List Span) → tokens_from piece_at 0 0 text ≡ fs ++ (rs ++ bs) → tokens_of text rs ≡ run → tokens_of text bs ≡ behind → Around text front run behind
    of fs [] bs is run_is behind_is = let none : ends_plain [] ≡ true = subst (λ (us : List token). ends_plain us ≡ true) (sym run_is) plain in absurd cc
    of fs (s ∷ rs) bs is run_is behind_is = record {
      before = fs;
      first = s;
      rest = rs;
      later = bs;
      is = is;
      run_is = run_is;
      behind_is = behind_is;
      end = ap (λ (us : List token). (place_of us).end) (sym run_is) ∙ last_end_is text s rs;
    }

pub parted_law : PartedLaw
parted_law text front run behind toks plain =
    let a = around text front run behind toks plain in
    let p = behind_run text 0 a.before a.first a.rest a.later a.is (subst (λ (us : List token). ends_plain us ≡ true) (sym a.run_is) plain) in
    subst (λ (n : ℕ). IsParted (drop n text)) (sym a.end) p

no_blank : (z : List ℕ) (n : ℕ) → begins_end z ≡ true → piece_at z ≡ Blank n → ⊥
unfolding piece_at
no_blank [] n ends is = absurd cc
no_blank (b ∷ bs) n ends is =
    let h = and_parts (eqb b 59) (not (goes_on bs)) ends in
    let semi : b ≡ 59 = grind (arith, nat_tests) in
    let is' : run_piece (59 ∷ bs) (prefix_len is_black bs) ≡ Blank n = rw semi at is in
    choose (has_end (take (prefix_len is_black bs + 1) (59 ∷ bs))) (Token (prefix_len is_black bs)) (Token (prefix_len is_black bs + 1)) (Blank n) is' (λ e t. absurd cc) (λ e t. absurd cc)

-- the token at a semicolon before a blank or the end
semicolon_at : (text : List ℕ) (at : ℕ) (ss : List Span) → tokens_from piece_at at 0 (drop at text) ≡ ss → begins_end (drop at text) ≡ true → is_firm (tokens_of text ss) ≡ true → ⊥
semicolon_at text at [] is ends firm = absurd cc
semicolon_at text at (s ∷ ss) is ends firm =
    elim (turn piece_at def_cut text at s ss is) [
      | Over n some within blank more ↦ no_blank (drop at text) n ends blank
      | First n rest some within token more whole ↦
          let bytes : bytes_of text s ≡ take n (drop at text) = ap (bytes_of text) (first_is s _ ss rest whole) ∙ piece_bytes text at n in
          no_token (drop at text) n ends token (subst (λ (w : List ℕ). bytes_eq w (codes ";") ≡ false) bytes (not-true _ firm))
    ]

pub behind_law : BehindLaw
behind_law text front run behind toks plain firm =
    let a = around text front run behind toks plain in
    let cut = a.is ∙ ap (λ (l : List Span). a.before ++ l) (last_cut a.first a.rest a.later) ∙ sym (append_assoc a.before (all_but a.first a.rest) (last_of a.first a.rest ∷ a.later)) in
    let j = jump piece_at def_cut (length text) text 0 (a.before ++ all_but a.first a.rest) (last_of a.first a.rest) a.later (omega arith) cut in
    let end = a.end ∙ sym (last_end a.first a.rest) in
    let rest : tokens_from piece_at (place_of run).end 0 (drop (place_of run).end text) ≡ a.later = ap (λ (n : ℕ). tokens_from piece_at n 0 (drop n text)) end ∙ j.rest in
    elim (parted_law text front run behind toks plain) [
      | inl free ↦ free
      | inr ends ↦ absurd (semicolon_at text (place_of run).end a.later rest ends (subst (λ (us : List token). is_firm us ≡ true) (sym a.behind_is) firm))
    ]
