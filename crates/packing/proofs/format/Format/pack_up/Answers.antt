-- `packing::format::Format::pack_up` meets its contract: the fitted bracket is packed where it is, and one above where something was cut off.
use Rattle.packing.proofs.PackLaws.{packs_exact, packs_inexact}
use Rattle.packing.proofs.format.Format.pack_up.Goals as goal

pub returns-then-c : goal.returns-then-c
returns-then-c c =
    let fitted = c.fitted-c.ensures in
    λ F fracs codess n d some b.
    packs_exact fitted.fine fitted.short c.if-c.true c.infinity.ensures c.capped.ensures F fracs codess n d some (fitted.brackets n d some b)

pub returns : goal.returns
returns c =
    let fitted = c.fitted-c.ensures in
    λ F fracs codess n d some b.
    packs_inexact fitted.fine fitted.short c.if-c.false c.infinity-2.ensures c.capped-2.ensures F fracs codess n d some (fitted.brackets n d some b)
