-- The statements of NETS that are written anew.
use Rattle.std.proofs.Common.{◌≡◌, ℕ, true, false, List, [], ◌∷◌, ◌++◌, map, drop, codes, Option, Some, None, Ok, refl, sym, ap, ◌∙◌, subst, append_assoc, append-nil, inl}
use Rattle.std.specs.List.{flat_map, list_all}
use Rattle.std.proofs.lemmas.List.Concat.{flat_map-append}
use Rattle.base_types.specs.declared.span.Span.{Span}
use Rattle.token_forms.specs.Tokens.{Token, place_of}
use Rattle.token_forms.specs.Parts.{token_texts}
use Rattle.splice.specs.declared.Edit.{Edit}
use Rattle.def_tokens.specs.DefTokens.{tokens_in}
use Rattle.def_syntax.specs.Grammar.{net}
use Rattle.def_syntax.specs.Pieces.{some_list}
use Rattle.def_syntax.specs.Designs.{IsLocated, AreLocated}
use Rattle.def_syntax.specs.declared.design.Located.{Located}
use Rattle.def_syntax.specs.declared.net.Net.{Net}
use Rattle.def_syntax.specs.declared.net.NetStatement.{NetStatement}
use Rattle.def_syntax.specs.declared.net.NetStatement.TheVariants as net_statements
use Rattle.def_layout.specs.declared.net.ConnectionLayout.{ConnectionLayout}
use Rattle.def_layout.specs.declared.net.NetLayout.{NetLayout}
use Rattle.def_layout.specs.Words.{texts, joined, HasWords}
use Rattle.def_layout.specs.Nets.{connection_words, connection_in, kept, other_words, has_wiring, net_words, closed, net_text}
use Rattle.def_layout.specs.NetForms.{names_connection}
use Rattle.def_layout.specs.Slices.{StandIn, slice}
use Rattle.def_layout.proofs.Slices.{slice_law}
use Rattle.def_layout.proofs.NetThere.{texts_both}
use Rattle.def_layout.proofs.NetLaw.{net_slice_law, written_back}
use Rattle.def_edit.specs.Seams.{is_firm}
use Rattle.def_edit.proofs.seams.Words.{behind_law}
use Rattle.def_edit.specs.Alike.Changes.{NetChange, changed_connections, each_words, net_statement_words}
use Rattle.def_edit.proofs.alike.Endings.{BeginsDashed, nets_dashed}
use Rattle.def_edit.specs.MovedText.{each_edit, new_words, statement_edit, net_edit}
use Rattle.def_edit.proofs.EditsRuns.{IsEdited, unedited, edited_both, one_edited, edited_as}
use Rattle.def_edit.proofs.EditsWords.{before_free}
use Rattle.def_edit.proofs.EditsNames.{net_names}
use Rattle.def_edit.proofs.EditsMoves.{IsChangedWell, AreChangedWell}

-- the tokens of statements
abbrev pub flat : List (List Token) → List Token
flat ss = flat_map (λ s. s) ss

-- the words of statements
abbrev pub flat_words : List (List (List ℕ)) → List (List ℕ)
flat_words ws = flat_map (λ w. w) ws

pub flat_texts : (ss : List (List Token)) → token_texts (flat ss) ≡ flat_words (map token_texts ss)
flat_texts [] = refl
flat_texts (s ∷ ss) = texts_both s (flat ss) ∙ ap (λ (l : List (List ℕ)). token_texts s ++ l) (flat_texts ss)

some_map : {X Y : Type 0} (f : X → Y) (xs : List X) → some_list (map f xs) ≡ some_list xs
some_map f [] = refl
some_map f (x ∷ xs) = refl

-- the tokens stand there in the text, before others
pub stands_there : (text : List ℕ) (front s behind : List Token) → tokens_in text ≡ front ++ (s ++ behind) → StandIn text s
stands_there text front s behind is = record { front = front; behind = behind; is = is }

pub dashed_firm : (s : List Token) → BeginsDashed s → is_firm s ≡ true
dashed_firm [] h = absurd h
dashed_firm (t ∷ ts) h = rw h refl

pub firm_front : (s more : List Token) → is_firm s ≡ true → is_firm (s ++ more) ≡ true
firm_front [] more h = absurd cc
firm_front (t ∷ ts) more h = h

-- a net that is written anew has its words
net_has : (text : List ℕ) (s : List Token) (x : Net) (c : NetChange) → StandIn text s → net.spells (net_statements.Net x) s → some_list x.connections ≡ true → list_all names_connection c.added ≡ true
    → HasWords (closed (joined (new_words text (place_of s) x c))) (net_statement_words text s (net_statements.Net x) c)
net_has text s x c stand spelled some names =
    let cut = slice text s in
    let own = net_slice_law text s x stand spelled in
    let y = own.value in
    let old = map (connection_in text) x.connections in
    let layout : NetLayout = record { text = net_text cut y c.stays c.added; is_cut = has_wiring 0 (texts cut) } in
    let some' : some_list y.connections ≡ true = sym (some_map (connection_in cut) y.connections) ∙ ap some_list own.connections ∙ some_map (connection_in text) x.connections ∙ some in
    let back = written_back cut c.stays c.added (Ok layout) (record { net = y; read = own.read; text_is = refl; cut = refl }) y own.read some' names in
    let kw = flat_map connection_words (kept c.stays old) in
    let aw = flat_map connection_words c.added in
    let ow = other_words 0 false (texts cut) in
    let all = flat_map connection_words (changed_connections c old) in
    let words : kw ++ (aw ++ ow) ≡ all ++ ow = sym (append_assoc kw aw ow) ∙ ap (λ (l : List (List ℕ)). l ++ ow) (sym (flat_map-append connection_words (kept c.stays old) c.added)) in
    let same : net_words cut y c.stays c.added ≡ new_words text (place_of s) x c =
    ap (λ (n : List ℕ). codes "-" ∷ n ∷ (flat_map connection_words (kept c.stays (map (connection_in cut) y.connections)) ++ (aw ++ ow))) own.named
    ∙ ap (λ (cs : List ConnectionLayout). codes "-" ∷ x.name ∷ (flat_map connection_words (kept c.stays cs) ++ (aw ++ ow))) own.connections
    ∙ ap (λ (ws : List (List ℕ)). codes "-" ∷ x.name ∷ ws) words
    in
    let ends = (net_names text s x stand spelled).ends in
    let shown : new_words text (place_of s) x c ++ codes ";" ∷ [] ≡ net_statement_words text s (net_statements.Net x) c =
    ap (λ (ws : List (List ℕ)). codes "-" ∷ x.name ∷ ws) (append_assoc all ow (codes ";" ∷ []))
    ∙ ap (λ (ws : List (List ℕ)). codes "-" ∷ x.name ∷ (all ++ (other_words 0 false ws ++ codes ";" ∷ []))) (slice_law text s stand ends)
    in
    let has : HasWords (closed (joined (new_words text (place_of s) x c))) (new_words text (place_of s) x c ++ codes ";" ∷ []) = subst (λ (ws : List (List ℕ)). HasWords (closed (joined ws)) (ws ++ codes ";" ∷ [])) same back.0 in
    subst (HasWords (closed (joined (new_words text (place_of s) x c)))) shown has

-- a statement that changes
net_edited : (text : List ℕ) (s : List Token) (x : Located NetStatement) (c : NetChange) (front behind : List Token) → tokens_in text ≡ front ++ (s ++ behind) → is_firm behind ≡ true → IsLocated net text s x → IsChangedWell x.statement c
    → IsEdited text s (net_edit text x c) (net_statement_words text s x.statement c)
net_edited text s x c front behind is firm located well = of x.statement located.spelled well
  where
    of : (v : NetStatement) → net.spells v s → IsChangedWell v c → IsEdited text s (statement_edit text x.span v c) (net_statement_words text s v c)
    of net_statements.MustJoin k w = unedited text s
    of (net_statements.Net y) k w =
        let stand = stands_there text front s behind is in
        let names = net_names text s y stand k in
        let edit : Edit = record { span = place_of s; text = closed (joined (new_words text (place_of s) y c)) } in
        let free = behind_law text front s behind is names.plain firm in
        let news = before_free edit.text (net_statement_words text s (net_statements.Net y) c) (drop edit.span.end text) (net_has text s y c stand k w.0 w.1) free in
        let one = one_edited text [] s [] edit (net_statement_words text s (net_statements.Net y) c) (dashed_firm s (nets_dashed.first (net_statements.Net y) s k)) refl refl news (inl names.plain) in
        let placed : edit ∷ [] ≡ statement_edit text x.span (net_statements.Net y) c = ap (λ (p : Span). statement_edit text p (net_statements.Net y) c) (sym located.span) in
        edited_as text (s ++ []) s (edit ∷ []) _ _ _ (append-nil s) placed (append-nil (net_statement_words text s (net_statements.Net y) c)) one

-- the next statement begins with no semicolon
nets_firm : (text : List ℕ) (ss : List (List Token)) (xs : List (Located NetStatement)) (behind : List Token) → AreLocated net text ss xs → is_firm behind ≡ true → is_firm (flat ss ++ behind) ≡ true
nets_firm text [] xs behind h firm = firm
nets_firm text (s ∷ ss) [] behind h firm = absurd h
nets_firm text (s ∷ ss) (x ∷ xs) behind h firm = firm_front (s ++ flat ss) behind (firm_front s (flat ss) (dashed_firm s (nets_dashed.first x.statement s h.0.spelled)))

-- all statements of NETS
pub nets_edited : (text : List ℕ) (ss : List (List Token)) (xs : List (Located NetStatement)) (cs : List (Option NetChange)) (front behind : List Token) → tokens_in text ≡ front ++ (flat ss ++ behind) → is_firm behind ≡ true
    → AreLocated net text ss xs → AreChangedWell xs cs → IsEdited text (flat ss) (each_edit (net_edit text) xs cs) (flat_words (each_words (net_statement_words text) ss xs cs))
nets_edited text [] [] cs front behind is firm h well = unedited text []
nets_edited text [] (x ∷ xs) cs front behind is firm h well = absurd h
nets_edited text (s ∷ ss) [] cs front behind is firm h well = absurd h
nets_edited text (s ∷ ss) (x ∷ xs) [] front behind is firm h well = edited_as text (flat (s ∷ ss)) (flat (s ∷ ss)) [] [] _ _ refl refl (flat_texts (s ∷ ss)) (unedited text (flat (s ∷ ss)))
nets_edited text (s ∷ ss) (x ∷ xs) (None ∷ cs) front behind is firm h well =
    let here = is ∙ ap (λ (l : List Token). front ++ l) (append_assoc s (flat ss) behind) in
    let there = here ∙ sym (append_assoc front s (flat ss ++ behind)) in
    edited_both text s (flat ss) [] _ _ _ (unedited text s) (nets_edited text ss xs cs (front ++ s) behind there firm h.1 well)
nets_edited text (s ∷ ss) (x ∷ xs) (Some c ∷ cs) front behind is firm h well =
    let here = is ∙ ap (λ (l : List Token). front ++ l) (append_assoc s (flat ss) behind) in
    let there = here ∙ sym (append_assoc front s (flat ss ++ behind)) in
    let one = net_edited text s x c front (flat ss ++ behind) here (nets_firm text ss xs behind h.1 firm) h.0 well.0 in
    edited_both text s (flat ss) _ _ _ _ one (nets_edited text ss xs cs (front ++ s) behind there firm h.1 well.1)
