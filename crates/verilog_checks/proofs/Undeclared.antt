-- The scalar nets of statements, as names are put behind each other.
use Rattle.std.proofs.Common.{◌≡◌, ℕ, ◌+◌, ◌<◌, Bool, true, false, cond, not, List, [], ◌∷◌, ◌++◌, length, map, get_or, take, Option, Some, None, is_some, refl, sym, ap, ◌∙◌, append_assoc, Bor}
use Rattle.std.specs.List.{flat_map, filter}
use Rattle.std.proofs.lemmas.List.{take_more, append-nil, map-append}
use Rattle.std.proofs.lemmas.List.Concat.{flat_map-append}
use Rattle.std.proofs.lemmas.List.Elements.{filter-append}
use Rattle.verilog_syntax.specs.declared.statement.Declared.{Declared}
use Rattle.verilog_syntax.specs.declared.statement.Range.{Range}
use Rattle.verilog_syntax.specs.declared.statement.Item.{Item}
use Rattle.verilog_syntax.specs.declared.statement.Statement.{Statement}
use Rattle.verilog_syntax.specs.declared.statement.Statement.TheVariants as statements
use Rattle.verilog_names.specs.Values.{unescaped}
use Rattle.verilog_names.specs.Declarations.{Declaration, declaration_of, is_declared, mentions_of, undeclared_in}
use Rattle.verilog_checks.specs.Faults.{is_vector, scalars_in}
use Rattle.verilog_checks.specs.Seen.{is_bracketed}
use Rattle.verilog_checks.proofs.NameLists.{now_of}

pub undeclared-append : (ds : List Declaration) (xs ys : List (List ℕ)) → undeclared_in ds (xs ++ ys) ≡ undeclared_in ds xs ++ undeclared_in ds ys
undeclared-append ds xs ys = filter-append (λ name. not (is_declared ds name)) xs ys

abbrev pub undeclared_items : List Declaration → List Item → List (List ℕ)
undeclared_items ds items = filter is_bracketed (undeclared_in ds (flat_map mentions_of items))

pub items-append : (ds : List Declaration) (xs ys : List Item) → undeclared_items ds (xs ++ ys) ≡ undeclared_items ds xs ++ undeclared_items ds ys
items-append ds xs ys =
    ap (λ l. filter is_bracketed (undeclared_in ds l)) (flat_map-append mentions_of xs ys) ∙ ap (filter is_bracketed) (undeclared-append ds (flat_map mentions_of xs) (flat_map mentions_of ys))
    ∙ filter-append is_bracketed (undeclared_in ds (flat_map mentions_of xs)) (undeclared_in ds (flat_map mentions_of ys))

-- one item more
pub items_more : (ds : List Declaration) (xs : List Item) (i : ℕ) (d : Item) → i < length xs → undeclared_items ds (take (i + 1) xs) ≡ undeclared_items ds (take i xs) ++ filter is_bracketed (undeclared_in ds (mentions_of (get_or xs i d)))
items_more ds xs i d lt =
    ap (undeclared_items ds) (take_more xs i d lt) ∙ items-append ds (take i xs) (get_or xs i d ∷ [])
    ∙ ap (λ l. undeclared_items ds (take i xs) ++ filter is_bracketed (undeclared_in ds l)) (append-nil (mentions_of (get_or xs i d)))

-- what was pushed behind what
pub pushed_on : (new mid front back more total : List (List ℕ)) → new ≡ mid ++ more → mid ≡ front ++ back → total ≡ back ++ more → new ≡ front ++ total
pushed_on new mid front back more total is was sum = is ∙ ap (λ l. l ++ more) was ∙ append_assoc front back more ∙ ap (λ l. front ++ l) (sym sum)

pub put_one : (front so here total : List (List ℕ)) (new mid : List (Bor (List ℕ))) (name : Bor (List ℕ)) → new ≡ mid ++ name ∷ [] → now_of mid ≡ front ++ so → here ≡ name.now ∷ [] → total ≡ so ++ here → now_of new ≡ front ++ total
put_one front so here total new mid name is was one sum =
    pushed_on (now_of new) (now_of mid) front so here total (ap now_of is ∙ map-append (λ (q : Bor (List ℕ)). q.now) mid (name ∷ []) ∙ ap (λ l. now_of mid ++ l) (sym one)) was sum

pub put_none : (front so here total : List (List ℕ)) (new mid : List (Bor (List ℕ))) → new ≡ mid → now_of mid ≡ front ++ so → here ≡ [] → total ≡ so ++ here → now_of new ≡ front ++ total
put_none front so here total new mid is was none sum = ap now_of is ∙ was ∙ ap (λ l. front ++ l) (sym (sum ∙ ap (λ l. so ++ l) none ∙ append-nil so))

-- the scalars of a list of names
pub scalar_names : (kind : Declared) (range : Option Range) (names : List (List ℕ))
    → map (λ d. d.name) (filter (λ d. not (is_vector d)) (map (declaration_of kind range) names)) ≡ cond (is_some range) [] (map unescaped names)
scalar_names kind None [] = refl
scalar_names kind None (name ∷ names) = ap (λ l. unescaped name ∷ l) (scalar_names kind None names)
scalar_names kind (Some range) [] = refl
scalar_names kind (Some range) (name ∷ names) = scalar_names kind (Some range) names

pub scalars_of : (ds : List Declaration) (s : Statement) (kind : Declared) (range : Option Range) (names listed found : List (List ℕ)) → s ≡ statements.Declare kind range names → listed ≡ names
    → found ≡ [] ++ cond (is_some range) [] (filter is_bracketed (map unescaped listed)) → found ≡ filter is_bracketed (scalars_in ds s)
scalars_of ds s kind range names listed found is list same =
    same ∙ ap (λ l. cond (is_some range) [] (filter is_bracketed (map unescaped l))) list ∙ none_or range (map unescaped names)
    ∙ ap (filter is_bracketed)
    (sym (scalar_names kind range names) ∙ sym (append-nil (map (λ d. d.name) (filter (λ d. not (is_vector d)) (map (declaration_of kind range) names)))) ∙ sym (ap (scalars_in ds) is))
  where
    none_or : (range : Option Range) (names : List (List ℕ)) → cond (is_some range) [] (filter is_bracketed names) ≡ filter is_bracketed (cond (is_some range) [] names)
    none_or None names = refl
    none_or (Some range) names = refl

-- one mentioned name
pub not_closed : (ds : List Declaration) (names : List (List ℕ)) (name : List ℕ) → names ≡ name ∷ [] → is_bracketed name ≡ false → filter is_bracketed (undeclared_in ds names) ≡ []
not_closed ds names name is other = ap (λ l. filter is_bracketed (undeclared_in ds l)) is ∙ by (is_declared ds name)
  where
    by : (t : Bool) → filter is_bracketed (cond (not t) (name ∷ []) []) ≡ []
    by true = refl
    by false = ap (λ t. cond t (name ∷ []) []) other

pub no_undeclared : (ds : List Declaration) (names : List (List ℕ)) (name : List ℕ) → names ≡ name ∷ [] → is_declared ds name ≡ true → filter is_bracketed (undeclared_in ds names) ≡ []
no_undeclared ds names name is there = ap (λ l. filter is_bracketed (undeclared_in ds l)) is ∙ ap (λ t. filter is_bracketed (cond (not t) (name ∷ []) [])) there

pub one_undeclared : (ds : List Declaration) (names : List (List ℕ)) (name : List ℕ) → names ≡ name ∷ [] → is_bracketed name ≡ true → is_declared ds name ≡ false → filter is_bracketed (undeclared_in ds names) ≡ name ∷ []
one_undeclared ds names name is closed absent =
    ap (λ l. filter is_bracketed (undeclared_in ds l)) is ∙ ap (λ t. filter is_bracketed (cond (not t) (name ∷ []) [])) absent ∙ ap (λ t. cond t (name ∷ []) []) closed
