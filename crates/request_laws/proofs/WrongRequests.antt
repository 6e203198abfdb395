-- The inspector's wrong versions of requests and codecs: none of them meets its statement, nor that of the export over it.
use Rattle.patterns.specs.Format.{binary64}
use Rattle.meaning.specs.Bytes.{big_endian, little_endian}
use Rattle.meaning.specs.Forms.{bare_form, decorated_form}
use Rattle.meaning.specs.Requests.{bare_size, decorated_size, first_operand, BareRequest, DecoratedRequest, Codec}
use Rattle.meaning.specs.ExactRequests.{ExactRequest}
use Rattle.request_laws.proofs.OneOutcome.{bare_request_once, exact_request_once, decorated_request_once, codec_once}
use Rattle.request_laws.proofs.WrongCalls.{NoneWrong, none_wrong}
use Rattle.request_laws.proofs.Examples.{whole, bare_shown, exact_shown, decorated_shown, bare_shown_big, bare_shown_little, decorated_shown_big, decorated_shown_little}

pub no_wrong_bare : NoneWrong (BareRequest binary64) big_endian (first_operand bare_size)
no_wrong_bare = none_wrong (bare_request_once binary64) bare_shown

pub no_wrong_exact : NoneWrong (ExactRequest binary64) big_endian (first_operand bare_size)
no_wrong_exact = none_wrong (exact_request_once binary64) exact_shown

pub no_wrong_decorated : NoneWrong (DecoratedRequest binary64) big_endian (first_operand decorated_size)
no_wrong_decorated = none_wrong (decorated_request_once binary64) decorated_shown

pub no_wrong_bare_codec_big : NoneWrong (Codec binary64 bare_form little_endian big_endian) big_endian whole
no_wrong_bare_codec_big = none_wrong (codec_once binary64 bare_form little_endian big_endian) bare_shown_big

pub no_wrong_bare_codec_little : NoneWrong (Codec binary64 bare_form big_endian little_endian) little_endian whole
no_wrong_bare_codec_little = none_wrong (codec_once binary64 bare_form big_endian little_endian) bare_shown_little

pub no_wrong_decorated_codec_big : NoneWrong (Codec binary64 decorated_form little_endian big_endian) big_endian whole
no_wrong_decorated_codec_big = none_wrong (codec_once binary64 decorated_form little_endian big_endian) decorated_shown_big

pub no_wrong_decorated_codec_little : NoneWrong (Codec binary64 decorated_form big_endian little_endian) little_endian whole
no_wrong_decorated_codec_little = none_wrong (codec_once binary64 decorated_form big_endian little_endian) decorated_shown_little
