-- Every public function has one answer.
pub mod ExactCodes
pub mod OneAnswer
