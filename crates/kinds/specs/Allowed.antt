-- What a divisor of each class allows: Trv if it holds 0, and else Com.
use Rattle.meaning.specs.Classes.{Class, class_e, class_m, class_n0, class_n1, class_p0, class_p1, class_z}
use Rattle.meaning.specs.Decorations.{Decoration, Trv, Com}

abbrev pub allowed_by : Class → Decoration
allowed_by class_e = Com
allowed_by class_m = Trv
allowed_by class_n0 = Trv
allowed_by class_n1 = Com
allowed_by class_p0 = Trv
allowed_by class_p1 = Com
allowed_by class_z = Trv
