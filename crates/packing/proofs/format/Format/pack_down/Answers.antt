-- `packing::format::Format::pack_down` meets its contract: the fitted bracket is packed where it is.
use Rattle.packing.proofs.PackLaws.{packs_down}
use Rattle.packing.proofs.format.Format.pack_down.Goals as goal

pub returns : goal.returns
returns c =
    let fitted = c.fitted-c.ensures in
    λ F fracs codess n d some b.
    packs_down fitted.fine fitted.short c.infinity.ensures c.capped.ensures F fracs codess n d some (fitted.brackets n d some b)
