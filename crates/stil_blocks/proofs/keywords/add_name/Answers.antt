use Rattle.stil_blocks.proofs.NameLists.{name_some, name_none}
use Rattle.stil_blocks.proofs.keywords.add_name.Goals as goal

pub returns-in_ok-push-in-Some : goal.returns-in_ok-push-in-Some
returns-in_ok-push-in-Some c = record {
  value = λ n. name_some n c.args.names.now c.push.new.self c.args.rest.now c.again-behind.result c.name.new.self c.in-Some.name c.in_ok-plain-in-Some.plain c.again-behind.ensures.value
      c.in-Some.ensures.value c.in_ok-plain-in-Some.ensures.value c.in_ok-push-in-Some.ensures.ok;
}

pub returns-in-None : goal.returns-in-None
returns-in-None c = record {
  value = λ n. name_none n c.args.names.now c.args.rest.now c.again-behind.result c.skip.new.tokens c.again-behind.ensures.value c.in-None.ensures.value c.skip.ensures.value;
}
