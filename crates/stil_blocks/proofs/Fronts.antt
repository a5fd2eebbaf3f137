-- Lists that grow by what each value gives.
use Rattle.std.proofs.Common.{◌≡◌, ℕ, suc, true, false, List, [], ◌∷◌, ◌++◌, map, Option, Some, None, refl, sym, ap, ◌∙◌}
use Rattle.std.specs.Prelude.{is_some}
use Rattle.token_forms.specs.Tokens.{Token}
use Rattle.token_forms.specs.Forms.{put_all}
use Rattle.stil_blocks.specs.declared.clause.Clause.{Clause}
use Rattle.stil_blocks.specs.declared.chain.ChainParts.{ChainParts}
use Rattle.stil_blocks.specs.declared.cells.Cell.{Cell}
use Rattle.stil_blocks.specs.declared.cells.CellList.{CellList}
use Rattle.stil_blocks.specs.Statements.{is_end}
use Rattle.stil_blocks.specs.Chains.{once, put_clause, clause_of, no_parts, parts_of, cell_at, put_cell, cells_within}
use Rattle.std.specs.List.{flat_map}
use Rattle.std.proofs.lemmas.List.{append_assoc}

append_none : {Y : Type 0} (ys : List Y) → ys ++ [] ≡ ys
append_none [] = refl
append_none {Y} (y ∷ ys) = ap (λ (l : List Y). y ∷ l) (append_none ys)

pub more_values : {X Y : Type 0} (f : X → List Y) (front now : List Y) (x : X) (xs all : List X) → all ≡ x ∷ xs → now ≡ front ++ f x → now ++ flat_map f xs ≡ front ++ flat_map f all
more_values f front now x xs all cut put = rw (put, cut) (append_assoc front (f x) (flat_map f xs))

pub last_value : {X Y : Type 0} (f : X → List Y) (front total : List Y) (rest : List X) → rest ≡ [] → front ++ flat_map f rest ≡ total → front ≡ total
last_value f front total rest none e = sym (append_none front) ∙ (rw none at e)

-- what is said for the first time, and once more
pub once_first : {A : Type 0} (o : Option A) (a : A) → is_some o ≡ false → once o a ≡ Some (Some a)
once_first None a e = refl
once_first (Some b) a e = absurd cc

pub once_again : {A : Type 0} (o : Option A) (a : A) → is_some o ≡ true → once o a ≡ None
once_again None a e = absurd cc
once_again (Some b) a e = refl

put_step : (p m : ChainParts) (x : Clause) (xs : List Clause) → put_clause p x ≡ Some m → put_all put_clause p (x ∷ xs) ≡ put_all put_clause m xs
unfolding put_all
put_step p m x xs e = rw (e, put_all) refl

put_stop : (p : ChainParts) (x : Clause) (xs : List Clause) → put_clause p x ≡ None → put_all put_clause p (x ∷ xs) ≡ None
unfolding put_all
put_stop p x xs e = rw (e, put_all) refl

put_end : (p : ChainParts) → put_all put_clause p [] ≡ Some p
unfolding put_all
put_end p = refl

module _ (p : ChainParts) (clause : Clause) (s : List Token) (ss all : List (List Token)) (total : Option ChainParts) (cut : all ≡ s ∷ ss) (is : clause ≡ clause_of s)
    (e : put_all put_clause p (map clause_of all) ≡ total) where
  parted : put_all put_clause p (clause ∷ map clause_of ss) ≡ total
  parted = ap (λ (x : Clause). put_all put_clause p (x ∷ map clause_of ss)) is ∙ ap (λ (l : List (List Token)). put_all put_clause p (map clause_of l)) (sym cut) ∙ e

  -- a clause more
  pub put_more : (m : ChainParts) → Some m ≡ put_clause p clause → put_all put_clause m (map clause_of ss) ≡ total
  put_more m put = sym (put_step p m clause (map clause_of ss) (sym put)) ∙ parted

  -- a clause that may not stand
  pub put_none : None ≡ put_clause p clause → None ≡ total
  put_none put = sym (put_stop p clause (map clause_of ss) (sym put)) ∙ parted

-- no clause more
pub put_last : (p : ChainParts) (ss : List (List Token)) (total : Option ChainParts) → ss ≡ [] → put_all put_clause p (map clause_of ss) ≡ total → Some p ≡ total
put_last p ss total none e = sym (put_end p) ∙ ap (λ (l : List (List Token)). put_all put_clause p (map clause_of l)) (sym none) ∙ e

pub parts_begin : (ss : List (List Token)) → put_all put_clause no_parts (map clause_of ss) ≡ parts_of ss
unfolding parts_of
parts_begin ss = refl

-- a cell more
module _ (n m : ℕ) (list next : CellList) (ts rest : List Token) (total : Option (CellList × ℕ)) (left : n ≡ suc m) (no : is_end ts ≡ false) (e : cells_within n list ts ≡ total) where
  cells_step : (c : Option (Cell × List Token)) → cell_at ts ≡ c → cells_within (suc m) list ts ≡ elim c [ None ↦ None | Some cell ↦ cells_within m (put_cell list cell.0) cell.1 ]
  unfolding cells_within
  cells_step c is = rw (no, is, cells_within) refl

  pub cells_more : (cell : Cell) → cell_at ts ≡ Some (cell, rest) → next ≡ put_cell list cell → cells_within m next rest ≡ total
  cells_more cell is put = rw put (sym (cells_step (Some (cell, rest)) is) ∙ ap (λ (k : ℕ). cells_within k list ts) (sym left) ∙ e)
