-- What the code's values are in the terms of document 01.
use Rattle.meaning.specs.Bytes as meant
use Rattle.ends_in_bytes.specs.declared.digits.ByteOrder.{ByteOrder}

abbrev pub order_of : ByteOrder → meant.ByteOrder
order_of ByteOrder.Big = meant.big_endian
order_of ByteOrder.Little = meant.little_endian
