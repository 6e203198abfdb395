-- `recode` meets its contract: the lengths are tried first, and what is read is written in the other order.
use mathlib.Core.Path.{sym, ◌∙◌}
use Rattle.patterns.specs.Format.{binary64}
use Rattle.meaning.proofs.CalledLaws.{pass, stop}
use Rattle.ends_in_bytes.specs.ByteOrderMeaning.{order_of}
use Rattle.codecs.proofs.RecodeLaws.{recoded, not_recoded}
use Rattle.codecs.proofs.recode.Goals as goal

pub returns-then-input-SIZE : goal.returns-then-input-SIZE
returns-then-input-SIZE g c = stop (λ long. c.if-input-SIZE.true (long ∙ sym (c.SIZE.ensures ∙ g.met.T.InBytes.size)))

pub returns-then-output-SIZE : goal.returns-then-output-SIZE
returns-then-output-SIZE g c =
    pass (c.if-input-SIZE.false ∙ c.SIZE.ensures ∙ g.met.T.InBytes.size)
    (stop (λ room. c.if-output-SIZE.true (room ∙ sym (c.SIZE-2.ensures ∙ g.met.T.InBytes.size))))

pub returns-in_err-x : goal.returns-in_err-x
returns-in_err-x g c =
    not_recoded binary64 g.T.Form.form (order_of c.args.from) (order_of c.args.to) g.T.Form.value
    (c.if-input-SIZE.false ∙ c.SIZE.ensures ∙ g.met.T.InBytes.size) (c.if-output-SIZE.false ∙ c.SIZE-2.ensures ∙ g.met.T.InBytes.size)
    c.read.ensures c.from_residual.result c.in_err-x.was c.from_residual.ensures.1

pub returns : goal.returns
returns g c =
    recoded binary64 g.T.Form.form (order_of c.args.from) (order_of c.args.to) g.T.Form.value
    (c.if-input-SIZE.false ∙ c.SIZE.ensures ∙ g.met.T.InBytes.size) (c.if-output-SIZE.false ∙ c.SIZE-2.ensures ∙ g.met.T.InBytes.size)
    c.read.ensures c.in_ok-x.was c.write.ensures
