use Rattle.std.proofs.Common.{rules, ◌≡◌, ◌+◌, ℕ, List, [], ◌∷◌, ◌++◌, not, is_some, is_none, length, take, slice_index, slice_set, sym, ap, ◌∙◌, subst}
use Rattle.std.specs.List.{position}
use Rattle.std.specs.Str.{bytes_eq}
use Rattle.std.proofs.lemmas.Grind.{get_or_default_zero}
use Rattle.def_reader.specs.NamedRows.{bucket_of, AreChained}
use Rattle.def_reader.proofs.Chained.{walked, none_of, not_some, passed, entered}
use Rattle.def_reader.proofs.index.Index.enter.Goals as goal

pub returns-then-is_some-clause-entered : goal.returns-then-is_some-clause-entered
returns-then-is_some-clause-entered g c =
    let name = g.T.Named.name_of in
    let old = c.args.self.now in
    let head : c.index-head.result.now ≡ slice_index old.heads.items c.bucket-bucket.result = c.index-head.ensures ∙ get_or_default_zero old.heads.items c.bucket-bucket.result c.index-head.result.now c.bucket-bucket.ensures.within in
    let walk = walked name old.key old.heads.items old.links.items c.args.rows.now c.requires.entered c.name-name.result.now c.bucket-bucket.result c.index-head.result.now c.along.result c.bucket-bucket.ensures.value head c.along.ensures.value in
    let own = ap (λ (q : List ℕ). position (λ x. bytes_eq (name x) q) (take (length old.links.items) c.args.rows.now)) c.name-name.ensures.value in
    let found = ap is_some (sym (walk ∙ own)) ∙ sym c.is_some.ensures ∙ c.if-is_some.true in
    subst (λ (l : List ℕ). AreChained name old.key old.heads.items l c.args.rows.now) (sym c.in_ok-push.ensures.items)
    (passed name old.key old.heads.items old.links.items c.args.rows.now c.args.row.now c.requires.entered c.requires.next found)

pub returns-then-is_some-clause-added : goal.returns-then-is_some-clause-added
returns-then-is_some-clause-added g c =
    let name = g.T.Named.name_of in
    let old = c.args.self.now in
    let head : c.index-head.result.now ≡ slice_index old.heads.items c.bucket-bucket.result = c.index-head.ensures ∙ get_or_default_zero old.heads.items c.bucket-bucket.result c.index-head.result.now c.bucket-bucket.ensures.within in
    let walk = walked name old.key old.heads.items old.links.items c.args.rows.now c.requires.entered c.name-name.result.now c.bucket-bucket.result c.index-head.result.now c.along.result c.bucket-bucket.ensures.value head c.along.ensures.value in
    let own = ap (λ (q : List ℕ). position (λ x. bytes_eq (name x) q) (take (length old.links.items) c.args.rows.now)) c.name-name.ensures.value in
    let found = ap is_some (sym (walk ∙ own)) ∙ sym c.is_some.ensures ∙ c.if-is_some.true in
    sym (not_some _ ∙ ap not found)

pub returns-clause-entered : goal.returns-clause-entered
returns-clause-entered g c =
    let name = g.T.Named.name_of in
    let old = c.args.self.now in
    let head : c.index-head.result.now ≡ slice_index old.heads.items c.bucket-bucket.result = c.index-head.ensures ∙ get_or_default_zero old.heads.items c.bucket-bucket.result c.index-head.result.now c.bucket-bucket.ensures.within in
    let walk = walked name old.key old.heads.items old.links.items c.args.rows.now c.requires.entered c.name-name.result.now c.bucket-bucket.result c.index-head.result.now c.along.result c.bucket-bucket.ensures.value head c.along.ensures.value in
    let own = ap (λ (q : List ℕ). position (λ x. bytes_eq (name x) q) (take (length old.links.items) c.args.rows.now)) c.name-name.ensures.value in
    let none = none_of _ (ap is_some (sym (walk ∙ own)) ∙ sym c.is_some.ensures ∙ c.if-is_some.false) in
    let is_b = c.bucket-bucket.ensures.value ∙ ap (bucket_of old.key (length old.heads.items)) c.name-name.ensures.value in
    let link : c.in-Ok.link ≡ length old.links.items + 1 = search rules in
    subst (λ (l : List ℕ). AreChained name old.key (slice_set old.heads.items c.bucket-bucket.result c.in-Ok.link) l c.args.rows.now) (sym c.in_ok-push-2.ensures.items)
    (subst (λ (v : ℕ). AreChained name old.key (slice_set old.heads.items c.bucket-bucket.result v) (old.links.items ++ c.index-head.result.now ∷ []) c.args.rows.now) (sym link)
    (entered name old.key old.heads.items old.links.items c.args.rows.now c.args.row.now c.requires.entered c.requires.next c.bucket-bucket.result c.index-head.result.now is_b head c.bucket-bucket.ensures.within none))

pub returns-clause-added : goal.returns-clause-added
returns-clause-added g c =
    let name = g.T.Named.name_of in
    let old = c.args.self.now in
    let head : c.index-head.result.now ≡ slice_index old.heads.items c.bucket-bucket.result = c.index-head.ensures ∙ get_or_default_zero old.heads.items c.bucket-bucket.result c.index-head.result.now c.bucket-bucket.ensures.within in
    let walk = walked name old.key old.heads.items old.links.items c.args.rows.now c.requires.entered c.name-name.result.now c.bucket-bucket.result c.index-head.result.now c.along.result c.bucket-bucket.ensures.value head c.along.ensures.value in
    let own = ap (λ (q : List ℕ). position (λ x. bytes_eq (name x) q) (take (length old.links.items) c.args.rows.now)) c.name-name.ensures.value in
    let none = none_of _ (ap is_some (sym (walk ∙ own)) ∙ sym c.is_some.ensures ∙ c.if-is_some.false) in
    sym (ap is_none none)
