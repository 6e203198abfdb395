-- What the code's operands are in the terms of document 01.

-- Two operands, each of which means what `meaning` says.
abbrev pub both_of : {A B : Type 0} (meaning : A → B) → A × A → B × B
both_of meaning operands = (meaning operands.0, meaning operands.1)
