-- `packing::format::Format::is_representable` meets its contract: the fitted bracket is exact, and its pattern finite.
use Rattle.packing.proofs.PackLaws.{packs_representable}
use Rattle.packing.proofs.format.Format.is_representable.Goals as goal

pub returns : goal.returns
returns c =
    let fitted = c.fitted-c.ensures in
    λ F fracs codess n d some b.
    packs_representable fitted.fine fitted.short _ c.stays_finite.ensures F fracs codess n d some (fitted.brackets n d some b)
