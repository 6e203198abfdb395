-- `chunk::reply` meets its contract. The call is lent seventeen zero bytes, and what it leaves there is copied behind its number and its place.
use mathlib.Core.Path.{◌≡◌, ◌∙◌}
use mathlib.Core.List.{[], ◌++◌, append-nil}
use borrow.Author.Rules.{rules}
use Rattle.refusals.specs.RefusalMeaning.{said}
use Rattle.bench_turn.proofs.chunk.reply.Goals as goal

pub returns : goal.returns
returns c =
    let called = c.request_decorated in
    let copied : c.copy_from_slice.new.self ++ [] ≡ called.new.output = append-nil c.copy_from_slice.new.self ∙ c.copy_from_slice.ensures.after in
    record {
      left = record { refusal = said called.result; after = called.new.output };
      called = called.ensures;
      is = search (rules, copied);
    }
