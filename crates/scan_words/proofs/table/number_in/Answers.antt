use Rattle.std.proofs.Common.{◌≡◌, ◌<◌, ◌^◌, ℕ, decimal, true, false, List, refl, sym, ap, ◌∙◌, subst, arith}
use Rattle.std.specs.Str.{bytes_eq}
use Rattle.std.proofs.lemmas.Fmt.{parse-decimal}
use Rattle.std.proofs.lemmas.Slice.Eq.{bytes_eq-Decides}
use Rattle.scan_words.proofs.table.number_in.Goals as goal

pub returns-else-eq : goal.returns-else-eq
returns-else-eq c = record {
  value = λ number lt is.
      let parsed = parse-decimal 32 number c.args.value.now c.parse.result lt (omega (arith, lt)) is c.parse.ensures.value.0 in
      let both = sym c.in-Ok.is ∙ parsed in
      let same : c.in-Ok.number ≡ number = cc in
      let text : c.format.result.now ≡ c.args.value.now = c.format.ensures.text ∙ ap decimal same ∙ sym is in
      let differs : bytes_eq c.format.result.now c.args.value.now ≡ false = sym c.eq.ensures ∙ c.if-eq.false in
      let equals : bytes_eq c.format.result.now c.args.value.now ≡ true = (bytes_eq-Decides _ _).1 text in
      absurd cc;
}

pub returns-in-Err : goal.returns-in-Err
returns-in-Err c = record {
  value = λ number lt is.
      let parsed = parse-decimal 32 number c.args.value.now c.parse.result lt (omega (arith, lt)) is c.parse.ensures.value.0 in
      let refused = sym c.in-Err.is ∙ parsed in
      absurd cc;
}
