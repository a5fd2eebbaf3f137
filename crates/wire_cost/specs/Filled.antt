-- What contracts see of the sums of a chain's first links, and of the rows that lanes read.
use Rattle.std.specs.Prelude.{ℕ, ℤ, List}

-- the rows of a chain, place by place
pub record RowLists : Type 0 where
  -- where one goes to at a place, in both coordinates
  pub entry_x : List ℤ
  pub entry_y : List ℤ
  -- where one comes from at a place
  pub exit_x : List ℤ
  pub exit_y : List ℤ
  pub turned : List ℤ
  pub gaps : List ℤ
  -- the middle of each block of units, and the least that its units come to
  pub middle_x : List ℤ
  pub middle_y : List ℤ
  pub slack : List ℤ

-- the sums and rows of the chain last filled in; before the first filling there are no links
pub record Filled : Type 0 where
  -- the most units that a chain may have
  pub room : ℕ
  -- the k-th is the sum of the first k links of the chain last filled in
  pub forward : List ℤ
  -- the same links with the entry and exit of each unit exchanged
  pub backward : List ℤ
  pub rows : RowLists
