-- What the code's classes are in the terms of document 01.
use Rattle.meaning.specs.Classes.{Class, class_e, class_m, class_n0, class_n1, class_p0, class_p1, class_z}
use Rattle.classify.specs.declared.IntervalClass.{IntervalClass}

abbrev pub class_of : IntervalClass → Class
class_of IntervalClass.E = class_e
class_of IntervalClass.M = class_m
class_of IntervalClass.N0 = class_n0
class_of IntervalClass.N1 = class_n1
class_of IntervalClass.P0 = class_p0
class_of IntervalClass.P1 = class_p1
class_of IntervalClass.Z = class_z
